use Rattle.std.proofs.Common.{refl, arith}
use Rattle.std.proofs.lemmas.Grind.{common_steps}
use Rattle.mu_outside.proofs.TakingLemmas.{takes_first}
use Rattle.mu_outside.specs.declared.calls.Call.TheVariants.{Silent}
use Rattle.mu_outside.proofs.CallLemmas.{passes, quietly, taken_notes, take_fails_notes, taken_keeps, take_fails_keeps}
use Rattle.mu_outside.proofs.desks.DeskOutside.take.Goals as goal

pub returns-in_err-take_call-clause-rest : goal.returns-in_err-take_call-clause-rest
returns-in_err-take_call-clause-rest c = take_fails_keeps c.args.self.now c.take_call.new.self c.in_err-take_call.ensures.err

pub returns-in_err-take_call-clause-time : goal.returns-in_err-take_call-clause-time
returns-in_err-take_call-clause-time c = passes c.args.self.now c.take_call.new.self Silent (take_fails_notes c.args.self.now c.take_call.new.self c.in_err-take_call.ensures.err)

pub returns-in_err-take_call-clause-inside : goal.returns-in_err-take_call-clause-inside
returns-in_err-take_call-clause-inside c = quietly c.args.self.now c.take_call.new.self Silent (take_fails_notes c.args.self.now c.take_call.new.self c.in_err-take_call.ensures.err) refl _ (λ image is. is)

pub returns-clause-ok : goal.returns-clause-ok
returns-clause-ok c = grind (arith, common_steps)

pub returns-clause-input : goal.returns-clause-input
returns-clause-input c =
    takes_first c.args.self.now.left _ c.args.buf.now _ c.fill_front-moved.result
    (grind (arith, common_steps)) (grind (arith, common_steps)) (grind (arith, common_steps)) c.requires

pub returns-clause-rest : goal.returns-clause-rest
returns-clause-rest c = taken_keeps _ c.args.self.now _ (returns-clause-ok c)

pub returns-clause-time : goal.returns-clause-time
returns-clause-time c = passes c.args.self.now _ Silent (taken_notes _ c.args.self.now _ (returns-clause-ok c))

pub returns-clause-inside : goal.returns-clause-inside
returns-clause-inside c = quietly c.args.self.now _ Silent (taken_notes _ c.args.self.now _ (returns-clause-ok c)) refl _ (λ image is. is)
