-- The replies to queries.
use Rattle.std.specs.Prelude.{ℕ, Bool, true, false, if◌then◌else◌, List, Option, Some, None}
use Rattle.std.specs.Option.{option_map}
use Rattle.std.specs.FinMap as finite
use Rattle.mu_tree.specs.declared.refusal.Refusal.TheVariants.{Unknown}
use Rattle.mu_decl.specs.declared.declaration.Statement.{Statement}
use Rattle.mu_flat.specs.Entries.{Entries}
use Rattle.mu_flat.specs.ProofTables.{proof_at}
use Rattle.mu_status.specs.Statuses.{status_of}
use Rattle.mu_command.specs.declared.command.Command.{Command}
use Rattle.mu_command.specs.declared.command.Command.TheVariants.{Status, ShowRule, ShowProof, ShowUnit}
use Rattle.mu_machine.specs.Pages.{proof_page, rule_page, status_page}
use Rattle.mu_machine.specs.Units.{unit_pages}
use Rattle.mu_machine.specs.declared.replies.Reply.{Reply}
use Rattle.mu_machine.specs.declared.replies.Reply.TheVariants.{Page, Refused}

-- the page that a query asks for of a rule with this statement: its whole page, or its status
abbrev pub page : Entries → Bool → List ℕ → Statement → List ℕ
page e whole rule s = if whole then rule_page e rule s (status_of e rule s) else status_page rule s (status_of e rule s)

-- the page of what is stored as a rule under a name, where something is
abbrev pub rule_pages : Entries → Bool → List ℕ → Option (List ℕ)
rule_pages e whole rule = option_map (page e whole rule) (finite.get e.rules rule)

-- the page of what is stored as a proof of a rule under a name, where something is
abbrev pub proof_pages : Entries → List ℕ → List ℕ → Option (List ℕ)
proof_pages e rule proof = option_map (proof_page e rule proof) (proof_at e.proofs rule proof)

-- the reply to a query for what stands under a name: its page, where there is something
abbrev pub reply_to : List ℕ × Option (List ℕ) → Reply
reply_to (name, None) = Refused (Unknown name)
reply_to (name, Some text) = Page text

-- what a query asks for: the name that must be there, and the page of what stands under it; a change asks for no page
abbrev pub asked : Entries → Command → Option (List ℕ × Option (List ℕ))
asked e (Status rule) = Some (rule, rule_pages e false rule)
asked e (ShowUnit unit) = Some (unit, unit_pages e unit)
asked e (ShowRule rule) = Some (rule, rule_pages e true rule)
asked e (ShowProof rule proof) = Some (proof, proof_pages e rule proof)
asked e _ = None

-- the reply to a query; none to a change
unfoldable pub queried : Entries → Command → Option Reply
queried e command = option_map reply_to (asked e command)
