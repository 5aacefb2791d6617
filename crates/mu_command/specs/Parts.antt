-- The parts that commands are made of: what each is spelled by, what reads it, and what is meant by it.
use Rattle.std.specs.Prelude.{ℕ, List, [], Option, Some, None, codes}
use Rattle.mu_grammar.specs.declared.declared.DeclaredConstant.{DeclaredConstant}
use Rattle.mu_grammar.specs.Lexemes.{Lexeme}
use Rattle.mu_grammar.specs.Parts.{Out, StandsEach}
use Rattle.mu_grammar.specs.SimpleParts.{AnyName, PlainName, GivenMark, GivenWord, StandsName, read_mark, read_word, read_name, read_plain_name}
use Rattle.mu_grammar.specs.Groups.{Behind, Formals, Optional, perhaps, StandsOptional, read_formals}
use Rattle.mu_grammar.specs.Declarations.{IsDeclaration, StandsDeclaration, read_declaration}
use Rattle.mu_grammar.specs.Writings.{Writing, tree_of}
use Rattle.mu_grammar.specs.Trees.{OneTree, read_tree}
use Rattle.mu_grammar.specs.Claims.{Sentence, IsClaim, StandsClaim, claim_of, trees_in_claim, read_claim}
use Rattle.mu_grammar.specs.Reasons.{Reason, IsReason, StandsReason, why_of, trees_in_reason, read_reason}
use Rattle.mu_grammar.specs.Blocks.{BlockWriting, IsBlock, StandsBlock, block_of, trees_in_block, read_block}
use Rattle.mu_grammar.specs.Excesses.{StandsTree, one_tree}
use Rattle.mu_command.specs.declared.parts.Keyword.{Keyword}
use Rattle.mu_command.specs.declared.parts.Keyword.TheVariants.{In, To}
use Rattle.mu_command.specs.declared.parts.Part.{Part}
use Rattle.mu_command.specs.declared.parts.Part.TheVariants as part
use Rattle.mu_command.specs.declared.parts.Field.{Field}
use Rattle.mu_command.specs.declared.parts.Field.TheVariants as field

-- the bytes of a keyword
abbrev pub keyword_text : Keyword → List ℕ
keyword_text In = codes "in"
keyword_text To = codes "to"

-- what a part is spelled for
abbrev pub Value : Part → Type 0
Value part.Name = List ℕ
Value part.Plain = List ℕ
Value (part.Word keyword) = Unit {0}
Value (part.Sign m) = Unit {0}
Value part.Declaration = DeclaredConstant
Value part.Formals = List (List ℕ)
Value part.Before = Option (List ℕ)
Value part.Tree = Writing
Value part.Claim = Sentence
Value part.Reason = Reason
Value part.Block = BlockWriting

-- `before` and a name
abbrev pub IsBefore : List Lexeme → List ℕ → Type 0
IsBefore ts text = Behind (codes "before") AnyName ts text

-- the tokens spell the value of the part
abbrev pub SpellsPart : (each : Part) → List Lexeme → Value each → Type 0
SpellsPart part.Name ts v = AnyName ts v
SpellsPart part.Plain ts v = PlainName ts v
SpellsPart (part.Word keyword) ts v = GivenWord (keyword_text keyword) ts v
SpellsPart (part.Sign m) ts v = GivenMark m ts v
SpellsPart part.Declaration ts v = IsDeclaration ts v
SpellsPart part.Formals ts v = Formals ts v
SpellsPart part.Before ts v = Optional IsBefore ts v
SpellsPart part.Tree ts v = OneTree ts v
SpellsPart part.Claim ts v = IsClaim ts v
SpellsPart part.Reason ts v = IsReason ts v
SpellsPart part.Block ts v = IsBlock ts v

-- reads `before` and a name, where the word stands
unfoldable pub read_before : List Lexeme → Out (Option (List ℕ))
read_before ts = perhaps (codes "before") read_name ts

-- reads the part
abbrev pub read_part : (each : Part) → List Lexeme → Out (Value each)
read_part part.Name ts = read_name ts
read_part part.Plain ts = read_plain_name ts
read_part (part.Word keyword) ts = read_word (keyword_text keyword) ts
read_part (part.Sign m) ts = read_mark m ts
read_part part.Declaration ts = read_declaration ts
read_part part.Formals ts = read_formals ts
read_part part.Before ts = read_before ts
read_part part.Tree ts = read_tree ts
read_part part.Claim ts = read_claim ts
read_part part.Reason ts = read_reason ts
read_part part.Block ts = read_block ts

-- what the spelled value of a part says: nothing for a word and a mark
abbrev pub said : (each : Part) → Value each → Option Field
said part.Name v = Some (field.Name v)
said part.Plain v = Some (field.Name v)
said (part.Word keyword) v = None
said (part.Sign m) v = None
said part.Declaration v = Some (field.Declaration v)
said part.Formals v = Some (field.Formals v)
said part.Before v = Some (field.Before v)
said part.Tree v = Some (field.Tree (tree_of v))
said part.Claim v = Some (field.Claim (claim_of v))
said part.Reason v = Some (field.Reason (why_of v))
said part.Block v = Some (field.Block (block_of v).0 (block_of v).1)

-- the trees in a spelled value
abbrev pub trees_in : (each : Part) → Value each → List Writing
trees_in part.Tree v = one_tree v
trees_in part.Claim v = trees_in_claim v
trees_in part.Reason v = trees_in_reason v
trees_in part.Block v = trees_in_block v
trees_in _ v = []

-- what the code has kept of a part stands for what is spelled: within the limits it is what is said
abbrev pub StandsPart : (each : Part) → Value each → Option Field → Type 0
StandsPart part.Name v (Some (field.Name kept)) = StandsName v kept
StandsPart part.Plain v (Some (field.Name kept)) = StandsName v kept
StandsPart (part.Word keyword) v None = Unit {0}
StandsPart (part.Sign m) v None = Unit {0}
StandsPart part.Declaration v (Some (field.Declaration kept)) = StandsDeclaration v kept
StandsPart part.Formals v (Some (field.Formals kept)) = StandsEach StandsName v kept
StandsPart part.Before v (Some (field.Before kept)) = StandsOptional StandsName v kept
StandsPart part.Tree v (Some (field.Tree kept)) = StandsTree v kept
StandsPart part.Claim v (Some (field.Claim kept)) = StandsClaim v kept
StandsPart part.Reason v (Some (field.Reason kept)) = StandsReason v kept
StandsPart part.Block v (Some (field.Block vars assumptions)) = StandsBlock v (vars, assumptions)
StandsPart _ v _ = ⊥
