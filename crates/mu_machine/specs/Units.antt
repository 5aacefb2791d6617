-- The pages of theories.
use Rattle.std.specs.Prelude.{ℕ, ◌++◌, if◌then◌else◌, List, [], Option, Some, codes}
use Rattle.std.specs.Bool.{nat_eq}
use Rattle.std.specs.List.{flat_map}
use Rattle.std.specs.Option.{option_map, option_map_or}
use Rattle.std.specs.Cmp.Lexicographic.{pointwise}
use Rattle.std.specs.FinMap as finite
use Rattle.mu_tree.specs.declared.claim.Definition.{Definition}
use Rattle.mu_decl.specs.Contexts.{base}
use Rattle.mu_decl.specs.declared.declaration.ConstDecl.{ConstDecl}
use Rattle.mu_decl.specs.declared.declaration.Statement.{Statement}
use Rattle.mu_graph.specs.Names.{led_by, members}
use Rattle.mu_defs.specs.Base.{base_table, is_base}
use Rattle.mu_defs.specs.Owned.{names_in}
use Rattle.mu_flat.specs.Entries.{Entries}
use Rattle.mu_status.specs.Statuses.{status_at, word_of}
use Rattle.mu_status.specs.declared.statuses.RuleStatus.{RuleStatus}
use Rattle.mu_print.specs.Canonical.{tree_text}
use Rattle.mu_print.specs.Texts.{claim_text, declaration_text, formals_text}
use Rattle.mu_machine.specs.Pages.{rule_word}

-- the line of a parent
abbrev pub parent_line : List ℕ → List ℕ
parent_line parent = codes "parent " ++ (parent ++ codes "\n")

-- the line of a constant
abbrev pub constant_line : List ℕ × ConstDecl → List ℕ
constant_line entry = codes "const " ++ (declaration_text entry.0 entry.1.shape entry.1.result ++ codes "\n")

-- the line of a definition
abbrev pub definition_line : List ℕ → Definition → List ℕ
definition_line name definition = codes "define " ++ (name ++ (formals_text definition.params ++ (codes " = " ++ (tree_text definition.body ++ codes "\n"))))

-- the lines of the constant of a name: that it is declared, and how it is defined, each where it is
abbrev pub constant_lines : Entries → List ℕ → List ℕ
constant_lines e name =
    option_map_or (λ declared. constant_line (name, declared)) (finite.get e.constants name) []
    ++ option_map_or (definition_line name) (finite.get e.definitions name) []

-- the line of a rule with this statement and status
abbrev pub stated_line : List ℕ → Statement → RuleStatus → List ℕ
stated_line rule s status = rule_word s ++ (codes " " ++ (rule ++ (codes " " ++ (word_of status ++ (codes " : " ++ (claim_text s.claim ++ codes "\n"))))))

-- the line of a rule, by what is stored under its name and the status of that
abbrev pub told_line : List ℕ → Option Statement → Option RuleStatus → List ℕ
told_line rule (Some s) (Some status) = stated_line rule s status
told_line rule _ _ = []

-- the line of the rule of a name, where there is one
abbrev pub rule_lines : Entries → List ℕ → List ℕ
rule_lines e rule = told_line rule (finite.get e.rules rule) (status_at e rule)

-- the names of the constants that stand in a theory, in byte order
abbrev pub constants_of : Entries → List ℕ → List (List ℕ)
constants_of e unit = names_in (λ declared. pointwise nat_eq declared.theory unit) (finite.entries e.constants)

-- the names of the rules that stand in a theory, in byte order
abbrev pub rules_of : Entries → List ℕ → List (List ℕ)
rules_of e unit = names_in (λ statement. pointwise nat_eq statement.theory unit) (finite.entries e.rules)

-- the page of a theory: its parents, its constants with their definitions, and its rules with their statuses
unfoldable pub unit_page : Entries → List ℕ → List ℕ
unit_page e unit =
    codes "theory " ++ (unit ++ (codes "\n" ++ (flat_map parent_line (led_by members e.units unit) ++ (flat_map (constant_lines e) (constants_of e unit) ++ (flat_map (rule_lines e) (rules_of e unit) ++ codes "end\n")))))

-- the page of the base theory: its constants
unfoldable pub base_page : List ℕ
base_page = codes "theory " ++ (base ++ (codes "\n" ++ (flat_map constant_line (finite.entries base_table) ++ codes "end\n")))

-- the page of the unit of a name, where there is one; the base theory is always there
abbrev pub unit_pages : Entries → List ℕ → Option (List ℕ)
unit_pages e unit = if is_base unit then Some base_page else option_map (λ parents. unit_page e unit) (finite.get e.units unit)
