use Rattle.std.proofs.Common.{◌≡◌, ◌∙◌, ◌+◌, ℕ, Some, OnErr, refl, ap, inr, subst, length, arith, rules}
use Rattle.mu_outside.specs.Disks.{wrote}
use Rattle.mu_outside.specs.Desks.{DeskState, scene_of, content_of, FailsDisk}
use Rattle.mu_outside.specs.declared.calls.Call.TheVariants.{Wrote, WriteFailed}
use Rattle.mu_outside.proofs.CallLemmas.{matched, either, within, passes, quietly, done_disk, fails_notes, done_notes, done_keeps, fails_keeps, half_within, wrote_within}
use Rattle.mu_outside.proofs.desks.DeskOutside.write_at.Goals as goal

pub returns-in-Ok-clause-ok : goal.returns-in-Ok-clause-ok
returns-in-Ok-clause-ok c = search rules

pub returns-in-Ok-clause-err : goal.returns-in-Ok-clause-err
returns-in-Ok-clause-err c =
    let long : length c.content.result.now ≡ length (content_of c.args.self.now) = ap length (c.content.ensures ∙ ap (λ (d : DeskState). content_of d) c.self.view_is) in
    let past : c.min-from.result + length c.args.bytes.now ≡ c.args.at + length c.args.bytes.now = omega (arith, c.min-from.ensures, long, c.requires.place) in
    subst (λ (n : ℕ). OnErr c.disk_call.result (FailsDisk (WriteFailed c.args.at n) c.args.self.now c.disk_call.new.self)) past c.disk_call.ensures.err

pub returns-in-Ok-clause-disk : goal.returns-in-Ok-clause-disk
returns-in-Ok-clause-disk c = matched c.disk_call.result (returns-in-Ok-clause-ok c) (returns-in-Ok-clause-err c)
    (λ done. done_disk (Wrote c.args.at c.args.bytes.now) c.args.self.now c.disk_call.new.self done ∙ ap (λ (n : ℕ). Some (wrote n c.args.bytes.now (scene_of c.args.self.now).disk)) (omega (arith, c.requires.place)))
    (λ failed. within c.args.self.now c.disk_call.new.self (WriteFailed c.args.at (c.args.at + length c.args.bytes.now)) (fails_notes (WriteFailed c.args.at (c.args.at + length c.args.bytes.now)) c.args.self.now c.disk_call.new.self failed) refl _ (half_within c.args.at c.args.bytes.now (scene_of c.args.self.now).disk))

pub returns-in-Ok-clause-rest : goal.returns-in-Ok-clause-rest
returns-in-Ok-clause-rest c = either c.disk_call.result (returns-in-Ok-clause-ok c) (returns-in-Ok-clause-err c) (λ done. done_keeps (Wrote c.args.at c.args.bytes.now) c.args.self.now c.disk_call.new.self refl done) (λ failed. fails_keeps (WriteFailed c.args.at (c.args.at + length c.args.bytes.now)) c.args.self.now c.disk_call.new.self refl failed)

pub returns-in-Ok-clause-time : goal.returns-in-Ok-clause-time
returns-in-Ok-clause-time c = either c.disk_call.result (returns-in-Ok-clause-ok c) (returns-in-Ok-clause-err c) (λ done. passes c.args.self.now c.disk_call.new.self (Wrote c.args.at c.args.bytes.now) (done_notes (Wrote c.args.at c.args.bytes.now) c.args.self.now c.disk_call.new.self done)) (λ failed. passes c.args.self.now c.disk_call.new.self (WriteFailed c.args.at (c.args.at + length c.args.bytes.now)) (fails_notes (WriteFailed c.args.at (c.args.at + length c.args.bytes.now)) c.args.self.now c.disk_call.new.self failed))

pub returns-in-Ok-clause-inside : goal.returns-in-Ok-clause-inside
returns-in-Ok-clause-inside c = either c.disk_call.result (returns-in-Ok-clause-ok c) (returns-in-Ok-clause-err c)
    (λ done. quietly c.args.self.now c.disk_call.new.self (Wrote c.args.at c.args.bytes.now) (done_notes (Wrote c.args.at c.args.bytes.now) c.args.self.now c.disk_call.new.self done) refl _ (wrote_within c.args.at c.args.bytes.now (scene_of c.args.self.now).disk c.requires.place))
    (λ failed. quietly c.args.self.now c.disk_call.new.self (WriteFailed c.args.at (c.args.at + length c.args.bytes.now)) (fails_notes (WriteFailed c.args.at (c.args.at + length c.args.bytes.now)) c.args.self.now c.disk_call.new.self failed) refl _ (half_within c.args.at c.args.bytes.now (scene_of c.args.self.now).disk))

pub returns-in-Err-clause-disk : goal.returns-in-Err-clause-disk
returns-in-Err-clause-disk c = within c.args.self.now c.starve_disk.new.self (WriteFailed c.args.at (c.args.at + length c.args.bytes.now)) (fails_notes (WriteFailed c.args.at (c.args.at + length c.args.bytes.now)) c.args.self.now c.starve_disk.new.self (inr c.starve_disk.ensures.state)) refl _ (half_within c.args.at c.args.bytes.now (scene_of c.args.self.now).disk)

pub returns-in-Err-clause-time : goal.returns-in-Err-clause-time
returns-in-Err-clause-time c = passes c.args.self.now c.starve_disk.new.self (WriteFailed c.args.at (c.args.at + length c.args.bytes.now)) (fails_notes (WriteFailed c.args.at (c.args.at + length c.args.bytes.now)) c.args.self.now c.starve_disk.new.self (inr c.starve_disk.ensures.state))

pub returns-in-Err-clause-inside : goal.returns-in-Err-clause-inside
returns-in-Err-clause-inside c = quietly c.args.self.now c.starve_disk.new.self (WriteFailed c.args.at (c.args.at + length c.args.bytes.now)) (fails_notes (WriteFailed c.args.at (c.args.at + length c.args.bytes.now)) c.args.self.now c.starve_disk.new.self (inr c.starve_disk.ensures.state)) refl _ (half_within c.args.at c.args.bytes.now (scene_of c.args.self.now).disk)
