use Rattle.std.proofs.Common.{◌≡◌, ℕ, ◌++◌, List, [], ◌∷◌, cond, ap, ◌∙◌}
use Rattle.std.specs.Option.{unwrap_or}
use Rattle.std.specs.FinMap as finite
use Rattle.mu_decl.specs.declared.occurring.Occurrence.{Occurrence}
use Rattle.mu_check.specs.Metas.{occurrences_at}
use Rattle.mu_check.proofs.MetaTables.{put_back}
use Rattle.mu_check.proofs.metas.note.Goals as goal

abbrev named : Occurrence → List ℕ → Occurrence
named o m = record { meta = m; count = o.count; kind = o.kind }

pub returns : goal.returns
returns c =
    let pushed : c.push.new.self ≡ c.swap-known.new.value ++ c.args.occurrence.now ∷ [] = c.in_ok-push.ensures.ok ∙ ap (λ m. c.swap-known.new.value ++ named c.args.occurrence.now m ∷ []) c.in_ok-copy.ensures in
    let put : c.put.new.self ≡ finite.insert c.swap-known.new.self c.args.occurrence.now.meta (c.swap-known.new.value ++ c.args.occurrence.now ∷ []) = c.in_ok-put.ensures.ok ∙ ap (λ m. finite.insert c.swap-known.new.self m c.push.new.self) c.in_ok-copy-2.ensures ∙ ap (finite.insert c.swap-known.new.self c.args.occurrence.now.meta) pushed in
    put_back c.args.table.now c.swap-known.new.self c.put.new.self c.args.occurrence.now.meta c.args.occurrence.now c.swap-known.result c.swap-known.new.value
    (λ b. c.swap-known.ensures.there b ∙ ap (finite.insert c.args.table.now c.args.occurrence.now.meta) c.new-same.ensures)
    c.swap-known.ensures.none
    (c.swap-known.ensures.value ∙ ap (unwrap_or (finite.get c.args.table.now c.args.occurrence.now.meta)) c.new-same.ensures)
    put
    ∙ ap (λ b. cond b c.args.table.now (finite.insert c.args.table.now c.args.occurrence.now.meta (occurrences_at c.args.table.now c.args.occurrence.now.meta ++ c.args.occurrence.now ∷ []))) c.if-is_tabled.ensures
