use Rattle.std.proofs.Common.{◌≡◌, ◌∙◌, ◌-◌, ◌++◌, ◌≤◌, ℕ, List, length, take, ap, sym, refl, subst, arith, rules}
use Rattle.std.proofs.lemmas.Option.{slice_get_read}
use Rattle.mu_outside.specs.Logs.{LogState}
use Rattle.mu_outside.specs.Scenes.{Scene, start, played, piece_of, disk_amid}
use Rattle.mu_outside.specs.declared.calls.Call.{Call}
use Rattle.mu_outside.proofs.ImageLemmas.{ends_in_order, entered, Shows, shows}
use Rattle.mu_outside.proofs.logs.Log.image.Goals as goal

pub image-requires : goal.image-requires
image-requires c =
    let log = c.self.inside in
    let call : Call = c.index.result.now in
    let is : c.enter.new.self ≡ entered log.first log.calls.items c.args.number call =
    c.in_ok-enter.ensures ∙ ap (λ (old : Scene). let s : Scene = record { disk = disk_amid old.disk call; told = old.told ++ piece_of call } in s)
    (c.in_ok-replay.ensures ∙ ap (λ (l : List ℕ). played (start l) (take (c.args.number - 1) c.deref.result.now)) c.items.ensures
    ∙ ap (λ (l : List Call). played (start log.first) (take (c.args.number - 1) l)) c.deref.ensures.value) in
    subst (λ (s : Scene). s.disk.low ≤ s.disk.high) (sym is) (ends_in_order log.first (take (c.args.number - 1) log.calls.items) call)

pub returns : goal.returns
returns c =
    let log = c.self.inside in
    let call : Call = c.index.result.now in
    let is : c.enter.new.self ≡ entered log.first log.calls.items c.args.number call =
    c.in_ok-enter.ensures ∙ ap (λ (old : Scene). let s : Scene = record { disk = disk_amid old.disk call; told = old.told ++ piece_of call } in s)
    (c.in_ok-replay.ensures ∙ ap (λ (l : List ℕ). played (start l) (take (c.args.number - 1) c.deref.result.now)) c.items.ensures
    ∙ ap (λ (l : List Call). played (start log.first) (take (c.args.number - 1) l)) c.deref.ensures.value) in
    let all = subst (λ (state : LogState). Shows state.first state.calls c.args.number c.args.fill c.args.long c.in_ok-image.field-0.0 c.in_ok-image.field-0.1) c.self.view_is
    (shows log.first log.calls.items c.args.number c.args.fill c.args.long call c.enter.new.self c.in_ok-image.field-0.0 c.in_ok-image.field-0.1 (omega arith)
    (slice_get_read log.calls.items (length log.calls.items) (c.args.number - 1) call refl (omega arith) c.index.ensures) is c.in_ok-image.ensures.image c.in_ok-image.ensures.told) in
    record { none = search rules; inside = all.inside; filled = all.filled; told = all.printed; moment = all.moment }
