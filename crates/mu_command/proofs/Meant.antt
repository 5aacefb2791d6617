-- Within the limits, what the code answers for a command is the command that is written.
use Rattle.std.proofs.Common.{◌≡◌, ℕ, List, [], ◌∷◌, Option, Some, None, refl, ap, sym, ◌∙◌, subst}
use Rattle.mu_grammar.specs.Lexemes.{Lexeme}
use Rattle.mu_grammar.specs.Rows.{Values, SpellsRow}
use Rattle.mu_grammar.specs.Excesses.{excess_of, no_excess}
use Rattle.mu_grammar.specs.Limits.{WithinToken, WithinTokens}
use Rattle.mu_text.proofs.Excesses.{none_together, all_parts}
use Rattle.mu_text.proofs.Limits.{name-keeps, plain_name-keeps, tree-meant, claim-meant, reason-meant, declaration-meant, block-meant, formals-meant}
use Rattle.mu_command.specs.declared.command.Command.{Command}
use Rattle.mu_command.specs.declared.command.Command.TheVariants as command
use Rattle.mu_command.specs.declared.forms.Form.{Form}
use Rattle.mu_command.specs.declared.forms.Form.TheVariants.{Theory, Parent, Unparent, Const, AlterConst, Define, Undefine, Axiom, Rule, AlterRule, Proof, Line, Box, AlterLine, AlterBox, Move, Cite, Unjustify, DropUnit, DropConst, DropRule, DropProof, DropItem, Status, ShowUnit, ShowRule, ShowProof}
use Rattle.mu_command.specs.declared.parts.Part.{Part}
use Rattle.mu_command.specs.declared.parts.Part.TheVariants as part
use Rattle.mu_command.specs.declared.parts.Field.{Field}
use Rattle.mu_command.specs.declared.parts.Field.TheVariants as field
use Rattle.mu_command.specs.Parts.{Value, SpellsPart, said, trees_in, StandsPart}
use Rattle.mu_command.specs.Rows.{row, form_of, fields_of, said_by, trees_of, with_first, StandsRow}
use Rattle.mu_command.specs.Grammar.{Written, Spelled, Spells, StandsCommand, make, command_of, trees_of_command}

before_meant : (ts : List Lexeme) (v k : Option (List ℕ)) → SpellsPart part.Before ts v → WithinTokens ts → StandsPart part.Before v (Some (field.Before k)) → k ≡ v
before_meant ts None None g a s = refl
before_meant ts None (Some y) g a s = absurd s
before_meant ts (Some x) None g a s = absurd s
before_meant ts (Some x) (Some y) g a s =
    ap (λ n. Some n) (s (name-keeps g.1 x (all_parts WithinToken g.0 g.1 (subst WithinTokens g.2 a)).1 g.4))

part_meant : (each : Part) (ts : List Lexeme) (v : Value each) (k : Option Field) → SpellsPart each ts v → WithinTokens ts → StandsPart each v k → excess_of (trees_in each v) ≡ no_excess → k ≡ said each v
part_meant part.Name ts v (Some (field.Name k)) g a s e = ap (λ x. Some (field.Name x)) (s (name-keeps ts v a g))
part_meant part.Name ts v _ g a s e = absurd s
part_meant part.Plain ts v (Some (field.Name k)) g a s e = ap (λ x. Some (field.Name x)) (s (plain_name-keeps ts v a g))
part_meant part.Plain ts v _ g a s e = absurd s
part_meant (part.Word keyword) ts v None g a s e = refl
part_meant (part.Word keyword) ts v (Some k) g a s e = absurd s
part_meant (part.Sign m) ts v None g a s e = refl
part_meant (part.Sign m) ts v (Some k) g a s e = absurd s
part_meant part.Declaration ts v (Some (field.Declaration k)) g a s e = ap (λ x. Some (field.Declaration x)) (declaration-meant ts v k a g refl s)
part_meant part.Declaration ts v _ g a s e = absurd s
part_meant part.Formals ts v (Some (field.Formals k)) g a s e = ap (λ x. Some (field.Formals x)) (formals-meant ts v k a g refl s)
part_meant part.Formals ts v _ g a s e = absurd s
part_meant part.Before ts v (Some (field.Before k)) g a s e = ap (λ x. Some (field.Before x)) (before_meant ts v k g a s)
part_meant part.Before ts v _ g a s e = absurd s
part_meant part.Tree ts v (Some (field.Tree k)) g a s e = ap (λ x. Some (field.Tree x)) (tree-meant ts v k a g e s)
part_meant part.Tree ts v _ g a s e = absurd s
part_meant part.Claim ts v (Some (field.Claim k)) g a s e = ap (λ x. Some (field.Claim x)) (claim-meant ts v k a g e s)
part_meant part.Claim ts v _ g a s e = absurd s
part_meant part.Reason ts v (Some (field.Reason k)) g a s e = ap (λ x. Some (field.Reason x)) (reason-meant ts v k a g e s)
part_meant part.Reason ts v _ g a s e = absurd s
part_meant part.Block ts v (Some (field.Block vars assumptions)) g a s e = ap (λ x. Some (field.Block x.0 x.1)) (block-meant ts v (vars, assumptions) a g e s)
part_meant part.Block ts v _ g a s e = absurd s

row_meant : (parts : List Part) (ts : List Lexeme) (v : Values Value parts) (fields : List Field) → SpellsRow Value SpellsPart parts ts v → WithinTokens ts → StandsRow parts v fields
    → excess_of (trees_of parts v) ≡ no_excess → fields ≡ said_by parts v
row_meant [] ts v fields g a s e = s
row_meant (each ∷ parts) ts v fields g a (first, others, is, here, behind) e =
    let within = all_parts WithinToken g.0 g.1 (subst WithinTokens g.2 a) in
    let none = none_together (trees_in each v.0) (trees_of parts v.1) e in
    is
    ∙ (ap (λ o. with_first o others) (part_meant each g.0 v.0 first g.3 within.0 here none.0)
    ∙ ap (with_first (said each v.0)) (row_meant parts g.1 v.1 others g.4 within.1 behind none.1))

-- a command by its form and its fields
back : Form → List Field → Option Command
back Theory (field.Name u ∷ []) = Some (command.Theory u)
back Parent (field.Name u ∷ field.Name p ∷ []) = Some (command.Parent u p)
back Unparent (field.Name u ∷ field.Name p ∷ []) = Some (command.Unparent u p)
back Const (field.Name u ∷ field.Declaration d ∷ []) = Some (command.Const u d.name d.shape d.result)
back AlterConst (field.Declaration d ∷ []) = Some (command.AlterConst d.name d.shape d.result)
back Define (field.Name c ∷ field.Formals params ∷ field.Tree body ∷ []) = Some (command.Define c (record { params = params; body = body }))
back Undefine (field.Name c ∷ []) = Some (command.Undefine c)
back Axiom (field.Name u ∷ field.Name r ∷ field.Claim claim ∷ []) = Some (command.Axiom u r claim)
back Rule (field.Name u ∷ field.Name r ∷ field.Claim claim ∷ []) = Some (command.Rule u r claim)
back AlterRule (field.Name r ∷ field.Claim claim ∷ []) = Some (command.AlterRule r claim)
back Proof (field.Name r ∷ field.Name p ∷ []) = Some (command.Proof r p)
back Line (field.Name r ∷ field.Name p ∷ field.Name l ∷ field.Name b ∷ field.Before x ∷ field.Tree tree ∷ []) = Some (command.Line r p l b x tree)
back Box (field.Name r ∷ field.Name p ∷ field.Name l ∷ field.Name b ∷ field.Before x ∷ field.Block vars assumptions ∷ []) = Some (command.Box r p l b x vars assumptions)
back AlterLine (field.Name r ∷ field.Name p ∷ field.Name l ∷ field.Tree tree ∷ []) = Some (command.AlterLine r p l tree)
back AlterBox (field.Name r ∷ field.Name p ∷ field.Name l ∷ field.Block vars assumptions ∷ []) = Some (command.AlterBox r p l vars assumptions)
back Move (field.Name r ∷ field.Name p ∷ field.Name l ∷ field.Name b ∷ field.Before x ∷ []) = Some (command.Move r p l b x)
back Cite (field.Name r ∷ field.Name p ∷ field.Name l ∷ field.Reason why ∷ []) = Some (command.Cite r p l why)
back Unjustify (field.Name r ∷ field.Name p ∷ field.Name l ∷ []) = Some (command.Unjustify r p l)
back DropUnit (field.Name u ∷ []) = Some (command.DropUnit u)
back DropConst (field.Name c ∷ []) = Some (command.DropConst c)
back DropRule (field.Name r ∷ []) = Some (command.DropRule r)
back DropProof (field.Name r ∷ field.Name p ∷ []) = Some (command.DropProof r p)
back DropItem (field.Name r ∷ field.Name p ∷ field.Name l ∷ []) = Some (command.DropItem r p l)
back Status (field.Name r ∷ []) = Some (command.Status r)
back ShowUnit (field.Name u ∷ []) = Some (command.ShowUnit u)
back ShowRule (field.Name r ∷ []) = Some (command.ShowRule r)
back ShowProof (field.Name r ∷ field.Name p ∷ []) = Some (command.ShowProof r p)
back _ _ = None

back_to : (c : Command) → back (form_of c) (fields_of c) ≡ Some c
unfolding back
back_to (command.Theory u) = refl
back_to _ = refl

-- commands with one form and the same fields are equal
pub same_command : (c d : Command) → form_of c ≡ form_of d → fields_of c ≡ fields_of d → c ≡ d
same_command c d e i =
    let both : Some c ≡ Some d = sym (back_to c) ∙ (ap (λ form. back form (fields_of c)) e ∙ (ap (back (form_of d)) i ∙ back_to d)) in
    cc

pub form_made : (form : Form) (v : Spelled form) → form_of (make form v) ≡ form
form_made Theory v = refl
form_made _ v = refl

pub fields_made : (form : Form) (v : Spelled form) → fields_of (make form v) ≡ said_by (row form) v
fields_made Theory v = refl
fields_made _ v = refl

-- within the limits, the command that stands for a written one is that one
pub command_meant : (w : Written) (ts : List Lexeme) (c : Command) → Spells ts w → WithinTokens ts → StandsCommand w c → excess_of (trees_of_command w) ≡ no_excess → c ≡ command_of w
command_meant w ts c g a s e =
    same_command c (command_of w) (s.0 ∙ sym (form_made w.0 w.1))
    (row_meant (row w.0) g.1 w.1 (fields_of c) g.4 (all_parts WithinToken g.0 g.1 (subst WithinTokens g.2 a)).1 s.1 e ∙ sym (fields_made w.0 w.1))
