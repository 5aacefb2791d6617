use Rattle.std.proofs.Common.{refl, rules}
use Rattle.mu_outside.specs.declared.calls.Call.TheVariants.{Silent}
use Rattle.mu_outside.proofs.CallLemmas.{passes, quietly, fails_notes, attached_notes, attached_keeps, name_fails_keeps}
use Rattle.mu_outside.proofs.desks.DeskOutside.attach.Goals as goal

pub returns-in_err-disk_call-clause-rest : goal.returns-in_err-disk_call-clause-rest
returns-in_err-disk_call-clause-rest c = name_fails_keeps c.args.self.now c.disk_call.new.self c.in_err-disk_call.ensures.err

pub returns-in_err-disk_call-clause-time : goal.returns-in_err-disk_call-clause-time
returns-in_err-disk_call-clause-time c = passes c.args.self.now c.disk_call.new.self Silent (fails_notes Silent c.args.self.now c.disk_call.new.self c.in_err-disk_call.ensures.err)

pub returns-in_err-disk_call-clause-inside : goal.returns-in_err-disk_call-clause-inside
returns-in_err-disk_call-clause-inside c = quietly c.args.self.now c.disk_call.new.self Silent (fails_notes Silent c.args.self.now c.disk_call.new.self c.in_err-disk_call.ensures.err) refl _ (λ image is. is)

pub returns-clause-ok : goal.returns-clause-ok
returns-clause-ok c = search rules

pub returns-clause-rest : goal.returns-clause-rest
returns-clause-rest c = attached_keeps c.args.self.now _ (returns-clause-ok c)

pub returns-clause-time : goal.returns-clause-time
returns-clause-time c = passes c.args.self.now _ Silent (attached_notes c.args.self.now _ (returns-clause-ok c))

pub returns-clause-inside : goal.returns-clause-inside
returns-clause-inside c = quietly c.args.self.now _ Silent (attached_notes c.args.self.now _ (returns-clause-ok c)) refl _ (λ image is. is)
