-- The pages of queries.
use Rattle.std.specs.Prelude.{ℕ, ◌++◌, List, [], Option, Some, None, codes, if◌then◌else◌}
use Rattle.std.specs.List.{flat_map}
use Rattle.std.specs.FinMap as finite
use Rattle.mu_decl.specs.declared.declaration.Statement.{Statement}
use Rattle.mu_tree.specs.declared.why.Why.{Why}
use Rattle.mu_proof.specs.declared.items.Item.{Item}
use Rattle.mu_proof.specs.declared.items.Item.TheOpen.{Item-F, Line, Block}
use Rattle.mu_proof.specs.declared.items.Item.TheFolds.{fold-Item}
use Rattle.mu_check.specs.declared.cause.Cause.{Cause}
use Rattle.mu_check.specs.declared.cause.Cause.TheVariants.{NoRule, ShadowedVariable, IllFormedBox, ForeignMeta, Unfinished, NoJustification, IllFormedLine, NotAccessible, Absent, NotVisible, IllFormedDefinition, WrongCount, IllFormedInstance, HypothesisDiffers, ConclusionDiffers}
use Rattle.mu_check.specs.declared.cause.Fault.{Fault}
use Rattle.mu_check.specs.Verdicts.{verdict}
use Rattle.mu_flat.specs.ProofTables.{proofs_of}
use Rattle.mu_flat.specs.Entries.{Entries, world_of}
use Rattle.mu_status.specs.Statuses.{word_of}
use Rattle.mu_status.specs.declared.statuses.RuleStatus.{RuleStatus}
use Rattle.mu_print.specs.Canonical.{tree_text}
use Rattle.mu_print.specs.Texts.{block_text, claim_text, reason_text}

-- the word for a rule: an axiom, or one that wants a proof
abbrev pub rule_word : Statement → List ℕ
rule_word s = if s.is_axiom then codes "axiom" else codes "rule"

-- the page of a query for a status: the rule, the word for it and its status
abbrev pub status_page : List ℕ → Statement → RuleStatus → List ℕ
status_page rule s status = rule ++ (codes " " ++ (rule_word s ++ (codes " " ++ (word_of status ++ codes "\n"))))

-- the word for a cause
abbrev pub cause_word : Cause → List ℕ
cause_word NoRule = codes "no-rule"
cause_word ShadowedVariable = codes "shadowed-variable"
cause_word IllFormedBox = codes "ill-formed-box"
cause_word ForeignMeta = codes "foreign-meta"
cause_word Unfinished = codes "unfinished"
cause_word NoJustification = codes "no-justification"
cause_word IllFormedLine = codes "ill-formed-line"
cause_word NotAccessible = codes "not-accessible"
cause_word Absent = codes "absent"
cause_word NotVisible = codes "not-visible"
cause_word IllFormedDefinition = codes "ill-formed-definition"
cause_word WrongCount = codes "wrong-count"
cause_word IllFormedInstance = codes "ill-formed-instance"
cause_word HypothesisDiffers = codes "hypothesis-differs"
cause_word ConclusionDiffers = codes "conclusion-differs"

-- what is told of a verdict: that the proof checks, or the item with its first fault and the cause
abbrev pub verdict_words : Option Fault → List ℕ
verdict_words None = codes " checks\n"
verdict_words (Some fault) = codes " fault " ++ (fault.label ++ (codes " " ++ (cause_word fault.cause ++ codes "\n")))

-- the line of a proof of the rule, by its name and its items
abbrev pub proof_line : Entries → List ℕ → List ℕ × List Item → List ℕ
proof_line e rule entry = codes "proof " ++ (entry.0 ++ verdict_words (verdict (world_of e) rule entry.1))

-- the lines of all proofs of the rule, in byte order of their names
abbrev pub proof_lines : Entries → List ℕ → List ℕ
proof_lines e rule = flat_map (proof_line e rule) (finite.entries (proofs_of e.proofs rule))

-- the word for a rule, its unit and its name
unfoldable pub rule_names : List ℕ → Statement → List ℕ
rule_names rule s = rule_word s ++ (codes " " ++ (s.theory ++ (codes " " ++ (rule ++ codes " "))))

-- the first line of the page of a rule: the word for it, its unit, its name, its status and its claim
abbrev pub rule_line : List ℕ → Statement → RuleStatus → List ℕ
rule_line rule s status = rule_names rule s ++ (word_of status ++ (codes " : " ++ (claim_text s.claim ++ codes "\n")))

-- the page of a rule with this statement and status
abbrev pub rule_page : Entries → List ℕ → Statement → RuleStatus → List ℕ
rule_page e rule s status = rule_line rule s status ++ (proof_lines e rule ++ codes "end\n")

-- what a line holds by, or that nothing is said of it
abbrev pub why_text : Option Why → List ℕ
why_text None = codes "nothing"
why_text (Some why) = reason_text why

-- an item as it stands in the page of its proof, behind these blanks: a line with what it holds by, or a box and behind it its items, two blanks deeper
abbrev pub item_step : Item-F (List ℕ → List ℕ) → List ℕ → List ℕ
item_step (Line label tree why) = λ blanks. blanks ++ (label ++ (codes " : " ++ (tree_text tree ++ (codes " by " ++ (why_text why ++ codes "\n")))))
item_step (Block label vars assumptions inner) =
    λ blanks. (blanks ++ (codes "box " ++ (label ++ (codes " : " ++ (block_text vars assumptions ++ codes "\n"))))) ++ flat_map (λ each. each (blanks ++ codes "  ")) inner

-- an item behind these blanks
unfoldable pub item_text : Item → List ℕ → List ℕ
item_text = fold-Item (List ℕ → List ℕ) item_step

-- the page of a proof of a rule: its verdict, and its items
unfoldable pub proof_page : Entries → List ℕ → List ℕ → List Item → List ℕ
proof_page e rule proof items =
    codes "proof " ++ (rule ++ (codes " " ++ (proof ++ (verdict_words (verdict (world_of e) rule items) ++ (flat_map (λ each. item_text each []) items ++ codes "end\n")))))
