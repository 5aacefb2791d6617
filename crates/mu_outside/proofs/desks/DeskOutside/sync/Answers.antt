use Rattle.std.proofs.Common.{refl, ap, Option, option_map}
use Rattle.mu_outside.specs.Disks.{Disk}
use Rattle.mu_outside.specs.declared.calls.Call.TheVariants.{Silent, Synced}
use Rattle.mu_outside.proofs.CallLemmas.{matched, either, within, passes, quietly, done_disk, same_disk, fails_notes, done_notes, done_keeps, fails_keeps}
use Rattle.mu_outside.proofs.desks.DeskOutside.sync.Goals as goal

pub returns-clause-disk : goal.returns-clause-disk
returns-clause-disk c = matched c.disk_call.result c.disk_call.ensures.ok c.disk_call.ensures.err (λ done. done_disk Synced c.args.self.now c.disk_call.new.self done) (λ failed. within c.args.self.now c.disk_call.new.self (Silent) (fails_notes (Silent) c.args.self.now c.disk_call.new.self failed) refl _ (λ image is. is))

pub returns-clause-rest : goal.returns-clause-rest
returns-clause-rest c = either c.disk_call.result c.disk_call.ensures.ok c.disk_call.ensures.err (λ done. done_keeps (Synced) c.args.self.now c.disk_call.new.self refl done) (λ failed. fails_keeps (Silent) c.args.self.now c.disk_call.new.self refl failed)

pub returns-clause-time : goal.returns-clause-time
returns-clause-time c = either c.disk_call.result c.disk_call.ensures.ok c.disk_call.ensures.err (λ done. passes c.args.self.now c.disk_call.new.self (Synced) (done_notes (Synced) c.args.self.now c.disk_call.new.self done)) (λ failed. passes c.args.self.now c.disk_call.new.self (Silent) (fails_notes (Silent) c.args.self.now c.disk_call.new.self failed))

pub returns-clause-inside : goal.returns-clause-inside
returns-clause-inside c = either c.disk_call.result c.disk_call.ensures.ok c.disk_call.ensures.err (λ done. quietly c.args.self.now c.disk_call.new.self (Synced) (done_notes (Synced) c.args.self.now c.disk_call.new.self done) refl _ (λ image is. is)) (λ failed. quietly c.args.self.now c.disk_call.new.self (Silent) (fails_notes (Silent) c.args.self.now c.disk_call.new.self failed) refl _ (λ image is. is))

pub returns-clause-content : goal.returns-clause-content
returns-clause-content c = either c.disk_call.result c.disk_call.ensures.ok c.disk_call.ensures.err (λ done. ap (λ (d : Option Disk). option_map (λ (one : Disk). one.content) d) (done_disk Synced c.args.self.now c.disk_call.new.self done)) (λ failed. ap (λ (d : Option Disk). option_map (λ (one : Disk). one.content) d) (same_disk c.args.self.now c.disk_call.new.self (fails_notes Silent c.args.self.now c.disk_call.new.self failed)))
