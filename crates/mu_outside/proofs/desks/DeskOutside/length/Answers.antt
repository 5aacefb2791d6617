use Rattle.std.proofs.Common.{◌∙◌, refl, ap, length}
use Rattle.mu_outside.specs.Desks.{DeskState, content_of}
use Rattle.mu_outside.specs.declared.calls.Call.TheVariants.{Silent}
use Rattle.mu_outside.proofs.CallLemmas.{passes, quietly, fails_notes, done_notes, same_disk, same_content, done_keeps, fails_keeps}
use Rattle.mu_outside.proofs.desks.DeskOutside.length.Goals as goal

pub returns-in_err-disk_call-clause-disk : goal.returns-in_err-disk_call-clause-disk
returns-in_err-disk_call-clause-disk c = same_disk c.args.self.now c.disk_call.new.self (fails_notes Silent c.args.self.now c.disk_call.new.self c.in_err-disk_call.ensures.err)

pub returns-in_err-disk_call-clause-rest : goal.returns-in_err-disk_call-clause-rest
returns-in_err-disk_call-clause-rest c = fails_keeps Silent c.args.self.now c.disk_call.new.self refl c.in_err-disk_call.ensures.err

pub returns-in_err-disk_call-clause-time : goal.returns-in_err-disk_call-clause-time
returns-in_err-disk_call-clause-time c = passes c.args.self.now c.disk_call.new.self Silent (fails_notes Silent c.args.self.now c.disk_call.new.self c.in_err-disk_call.ensures.err)

pub returns-in_err-disk_call-clause-inside : goal.returns-in_err-disk_call-clause-inside
returns-in_err-disk_call-clause-inside c = quietly c.args.self.now c.disk_call.new.self Silent (fails_notes Silent c.args.self.now c.disk_call.new.self c.in_err-disk_call.ensures.err) refl _ (λ image is. is)

pub returns-clause-value : goal.returns-clause-value
returns-clause-value c = ap length (c.content.ensures ∙ ap (λ (d : DeskState). content_of d) c.self.view_is ∙ same_content c.args.self.now c.disk_call.new.self (done_notes Silent c.args.self.now c.disk_call.new.self c.in_ok-disk_call.ensures.ok))

pub returns-clause-disk : goal.returns-clause-disk
returns-clause-disk c = same_disk c.args.self.now c.disk_call.new.self (done_notes Silent c.args.self.now c.disk_call.new.self c.in_ok-disk_call.ensures.ok)

pub returns-clause-rest : goal.returns-clause-rest
returns-clause-rest c = done_keeps Silent c.args.self.now c.disk_call.new.self refl c.in_ok-disk_call.ensures.ok

pub returns-clause-time : goal.returns-clause-time
returns-clause-time c = passes c.args.self.now c.disk_call.new.self Silent (done_notes Silent c.args.self.now c.disk_call.new.self c.in_ok-disk_call.ensures.ok)

pub returns-clause-inside : goal.returns-clause-inside
returns-clause-inside c = quietly c.args.self.now c.disk_call.new.self Silent (done_notes Silent c.args.self.now c.disk_call.new.self c.in_ok-disk_call.ensures.ok) refl _ (λ image is. is)
