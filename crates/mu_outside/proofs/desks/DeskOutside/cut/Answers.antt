use Rattle.std.proofs.Common.{refl}
use Rattle.mu_outside.specs.declared.calls.Call.TheVariants.{Cut, CutFailed}
use Rattle.mu_outside.proofs.CallLemmas.{matched, either, within, passes, quietly, done_disk, fails_notes, done_notes, done_keeps, fails_keeps}
use Rattle.mu_outside.proofs.desks.DeskOutside.cut.Goals as goal

pub returns-clause-disk : goal.returns-clause-disk
returns-clause-disk c = matched c.disk_call.result c.disk_call.ensures.ok c.disk_call.ensures.err (λ done. done_disk (Cut c.args.at) c.args.self.now c.disk_call.new.self done) (λ failed. within c.args.self.now c.disk_call.new.self (CutFailed c.args.at) (fails_notes (CutFailed c.args.at) c.args.self.now c.disk_call.new.self failed) refl _ (λ image is. record { no_shorter = is.no_shorter; no_longer = is.no_longer; outside = is.outside }))

pub returns-clause-rest : goal.returns-clause-rest
returns-clause-rest c = either c.disk_call.result c.disk_call.ensures.ok c.disk_call.ensures.err (λ done. done_keeps (Cut c.args.at) c.args.self.now c.disk_call.new.self refl done) (λ failed. fails_keeps (CutFailed c.args.at) c.args.self.now c.disk_call.new.self refl failed)

pub returns-clause-time : goal.returns-clause-time
returns-clause-time c = either c.disk_call.result c.disk_call.ensures.ok c.disk_call.ensures.err (λ done. passes c.args.self.now c.disk_call.new.self (Cut c.args.at) (done_notes (Cut c.args.at) c.args.self.now c.disk_call.new.self done)) (λ failed. passes c.args.self.now c.disk_call.new.self (CutFailed c.args.at) (fails_notes (CutFailed c.args.at) c.args.self.now c.disk_call.new.self failed))

pub returns-clause-inside : goal.returns-clause-inside
returns-clause-inside c = either c.disk_call.result c.disk_call.ensures.ok c.disk_call.ensures.err (λ done. quietly c.args.self.now c.disk_call.new.self (Cut c.args.at) (done_notes (Cut c.args.at) c.args.self.now c.disk_call.new.self done) refl _ (λ image is. is)) (λ failed. quietly c.args.self.now c.disk_call.new.self (CutFailed c.args.at) (fails_notes (CutFailed c.args.at) c.args.self.now c.disk_call.new.self failed) refl _ (λ image is. record { no_shorter = is.no_shorter; no_longer = is.no_longer; outside = is.outside }))
