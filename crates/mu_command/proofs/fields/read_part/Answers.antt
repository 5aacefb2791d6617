use Rattle.std.proofs.Common.{◌≡◌, ℕ, List, rules, refl, subst, Some, Err}
use Rattle.mu_grammar.specs.Groups.{StandsOptional}
use Rattle.mu_grammar.specs.Parts.{Gives, Read, Same, StandsEach}
use Rattle.mu_grammar.specs.SimpleParts.{StandsName, read_word}
use Rattle.mu_grammar.specs.Declarations.{StandsDeclaration}
use Rattle.mu_grammar.specs.Excesses.{Raising, StandsTree, one_tree}
use Rattle.mu_grammar.specs.Claims.{StandsClaim, trees_in_claim}
use Rattle.mu_grammar.specs.Reasons.{StandsReason, trees_in_reason}
use Rattle.mu_grammar.specs.Blocks.{StandsBlock, trees_in_block}
use Rattle.mu_command.specs.declared.parts.Part.TheVariants as part
use Rattle.mu_command.specs.declared.parts.Field.TheVariants as field
use Rattle.mu_command.proofs.FormLemmas.{mute, part_stops, raising, silent}
use Rattle.mu_command.proofs.fields.read_part.Goals as goal

pub returns-in_err-name-in-Name : goal.returns-in_err-name-in-Name
returns-in_err-name-in-Name c =
    let is : c.from_residual.result ≡ Err c.in_err-name-in-Name.field-0.0 = search rules in
    rw (c.in-Name.is, is) (part_stops part.Name StandsName c.args.excess.now c.args.excess.now _ _ _ c.in_err-name-in-Name.ensures)

pub returns-in_err-plain_name-in-Plain : goal.returns-in_err-plain_name-in-Plain
returns-in_err-plain_name-in-Plain c =
    let is : c.from_residual-in_err-plain_name-in-Plain.result ≡ Err c.in_err-plain_name-in-Plain.field-0.0 = search rules in
    rw (c.in-Plain.is, is) (part_stops part.Plain StandsName c.args.excess.now c.args.excess.now _ _ _ c.in_err-plain_name-in-Plain.ensures)

pub returns-in_err-word-in-Word : goal.returns-in_err-word-in-Word
returns-in_err-word-in-Word c =
    let is : c.from_residual-in_err-word-in-Word.result ≡ Err c.in_err-word-in-Word.field-0.0 = search rules in
    rw (c.in-Word.is, is) (part_stops (part.Word c.in-Word.keyword) Same c.args.excess.now c.args.excess.now _ _ _ (subst (λ (text : List ℕ). Gives Same (read_word text c.args.reader.now) (Err c.in_err-word-in-Word.field-0.0) c.word.new.reader) c.keyword_bytes.ensures c.in_err-word-in-Word.ensures))

pub returns-in_err-mark-in-Sign : goal.returns-in_err-mark-in-Sign
returns-in_err-mark-in-Sign c =
    let is : c.from_residual-in_err-mark-in-Sign.result ≡ Err c.in_err-mark-in-Sign.field-0.0 = search rules in
    rw (c.in-Sign.is, is) (part_stops (part.Sign c.in-Sign.mark) Same c.args.excess.now c.args.excess.now _ _ _ c.in_err-mark-in-Sign.ensures)

pub returns-in_err-declaration-in-Declaration : goal.returns-in_err-declaration-in-Declaration
returns-in_err-declaration-in-Declaration c =
    let is : c.from_residual-in_err-declaration-in-Declaration.result ≡ Err c.in_err-declaration-in-Declaration.field-0.0 = search rules in
    rw (c.in-Declaration.is, is) (part_stops part.Declaration StandsDeclaration c.args.excess.now c.args.excess.now _ _ _ c.in_err-declaration-in-Declaration.ensures)

pub returns-in_err-formals-in-Formals : goal.returns-in_err-formals-in-Formals
returns-in_err-formals-in-Formals c =
    let is : c.from_residual-in_err-formals-in-Formals.result ≡ Err c.in_err-formals-in-Formals.field-0.0 = search rules in
    rw (c.in-Formals.is, is) (part_stops part.Formals (StandsEach StandsName) c.args.excess.now c.args.excess.now _ _ _ c.in_err-formals-in-Formals.ensures)

pub returns-in_err-read_before-in-Before : goal.returns-in_err-read_before-in-Before
returns-in_err-read_before-in-Before c =
    let is : c.from_residual-in_err-read_before-in-Before.result ≡ Err c.in_err-read_before-in-Before.field-0.0 = search rules in
    rw (c.in-Before.is, is) (part_stops part.Before (StandsOptional StandsName) c.args.excess.now c.args.excess.now _ _ _ c.in_err-read_before-in-Before.ensures)

pub returns-in_err-tree-in-Tree : goal.returns-in_err-tree-in-Tree
returns-in_err-tree-in-Tree c =
    let is : c.from_residual-in_err-tree-in-Tree.result ≡ Err c.in_err-tree-in-Tree.field-0.0 = search rules in
    rw (c.in-Tree.is, is) (part_stops part.Tree (Raising StandsTree one_tree c.args.excess.now c.tree.new.excess) c.args.excess.now c.tree.new.excess _ _ _ c.in_err-tree-in-Tree.ensures)

pub returns-in_err-claim-in-Claim : goal.returns-in_err-claim-in-Claim
returns-in_err-claim-in-Claim c =
    let is : c.from_residual-in_err-claim-in-Claim.result ≡ Err c.in_err-claim-in-Claim.field-0.0 = search rules in
    rw (c.in-Claim.is, is) (part_stops part.Claim (Raising StandsClaim trees_in_claim c.args.excess.now c.claim.new.excess) c.args.excess.now c.claim.new.excess _ _ _ c.in_err-claim-in-Claim.ensures)

pub returns-in_err-reason-in-Reason : goal.returns-in_err-reason-in-Reason
returns-in_err-reason-in-Reason c =
    let is : c.from_residual-in_err-reason-in-Reason.result ≡ Err c.in_err-reason-in-Reason.field-0.0 = search rules in
    rw (c.in-Reason.is, is) (part_stops part.Reason (Raising StandsReason trees_in_reason c.args.excess.now c.reason.new.excess) c.args.excess.now c.reason.new.excess _ _ _ c.in_err-reason-in-Reason.ensures)

pub returns-in_ok-name-in-Name : goal.returns-in_ok-name-in-Name
returns-in_ok-name-in-Name c = rw c.in-Name.is (silent part.Name (λ x. Some (field.Name x)) (λ v. refl) c.args.excess.now _ _ _ c.in_ok-name-in-Name.ensures)

pub returns-in_ok-plain_name-in-Plain : goal.returns-in_ok-plain_name-in-Plain
returns-in_ok-plain_name-in-Plain c = rw c.in-Plain.is (silent part.Plain (λ x. Some (field.Name x)) (λ v. refl) c.args.excess.now _ _ _ c.in_ok-plain_name-in-Plain.ensures)

pub returns-in_ok-declaration-in-Declaration : goal.returns-in_ok-declaration-in-Declaration
returns-in_ok-declaration-in-Declaration c = rw c.in-Declaration.is (silent part.Declaration (λ x. Some (field.Declaration x)) (λ v. refl) c.args.excess.now _ _ _ c.in_ok-declaration-in-Declaration.ensures)

pub returns-in_ok-formals-in-Formals : goal.returns-in_ok-formals-in-Formals
returns-in_ok-formals-in-Formals c = rw c.in-Formals.is (silent part.Formals (λ x. Some (field.Formals x)) (λ v. refl) c.args.excess.now _ _ _ c.in_ok-formals-in-Formals.ensures)

pub returns-in_ok-read_before-in-Before : goal.returns-in_ok-read_before-in-Before
returns-in_ok-read_before-in-Before c = rw c.in-Before.is (silent part.Before (λ x. Some (field.Before x)) (λ v. refl) c.args.excess.now _ _ _ c.in_ok-read_before-in-Before.ensures)

pub returns-in_ok-word-in-Word : goal.returns-in_ok-word-in-Word
returns-in_ok-word-in-Word c = rw c.in-Word.is (mute (part.Word c.in-Word.keyword) Same (λ v. refl) (λ v. tt) c.args.excess.now _ _ _ (subst (λ (text : List ℕ). Read Same (read_word text c.args.reader.now) tt c.word.new.reader) c.keyword_bytes.ensures c.in_ok-word-in-Word.ensures))

pub returns-in_ok-mark-in-Sign : goal.returns-in_ok-mark-in-Sign
returns-in_ok-mark-in-Sign c = rw c.in-Sign.is (mute (part.Sign c.in-Sign.mark) Same (λ v. refl) (λ v. tt) c.args.excess.now _ _ _ c.in_ok-mark-in-Sign.ensures)

pub returns-in_ok-tree-in-Tree : goal.returns-in_ok-tree-in-Tree
returns-in_ok-tree-in-Tree c = rw c.in-Tree.is (raising part.Tree (λ x. Some (field.Tree x)) c.args.excess.now c.tree.new.excess _ _ _ c.in_ok-tree-in-Tree.ensures)

pub returns-in_ok-claim-in-Claim : goal.returns-in_ok-claim-in-Claim
returns-in_ok-claim-in-Claim c = rw c.in-Claim.is (raising part.Claim (λ x. Some (field.Claim x)) c.args.excess.now c.claim.new.excess _ _ _ c.in_ok-claim-in-Claim.ensures)

pub returns-in_ok-reason-in-Reason : goal.returns-in_ok-reason-in-Reason
returns-in_ok-reason-in-Reason c = rw c.in-Reason.is (raising part.Reason (λ x. Some (field.Reason x)) c.args.excess.now c.reason.new.excess _ _ _ c.in_ok-reason-in-Reason.ensures)

pub returns-in_err-vars-in-Block : goal.returns-in_err-vars-in-Block
returns-in_err-vars-in-Block c =
    let is : c.from_residual-in_err-vars-in-Block.result ≡ Err c.in_err-vars-in-Block.field-0.0 = search rules in
    rw (c.in-Block.is, is) (part_stops part.Block (Raising StandsBlock trees_in_block c.args.excess.now c.block.new.excess) c.args.excess.now c.block.new.excess _ _ _ c.in_err-vars-in-Block.ensures)

pub returns-in_ok-vars-in-Block : goal.returns-in_ok-vars-in-Block
returns-in_ok-vars-in-Block c = rw c.in-Block.is (raising part.Block (λ x. Some (field.Block x.0 x.1)) c.args.excess.now c.block.new.excess _ _ _ c.in_ok-vars-in-Block.ensures)
