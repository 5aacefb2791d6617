use Rattle.std.proofs.Common.{◌≡◌, ◌+◌, ◌-◌, ◌≤◌, List, ℕ, Option, ap, subst, rules, take, drop, length, option_map}
use Rattle.std.specs.Prelude.{IfSome}
use Rattle.std.proofs.lemmas.Slice.{overwrites}
use Rattle.mu_outside.specs.Disks.{Disk}
use Rattle.mu_outside.specs.Outsides.{content}
use borrow.Rule.Slice.PartMut.{post_of}
use Rattle.mu_journal.proofs.Moments.{look_on, look_one}
use Rattle.mu_journal.proofs.Shown.{read_more, both_known}
use Rattle.mu_journal.proofs.reading.read_full.Goals as goal

pub loop-count-preserved : goal.loop-count-preserved
loop-count-preserved g c =
    let i = c.loop-count.invariant in
    let at : ℕ = c.args.at in
    let count : ℕ = c.loop-count.count in
    let n : ℕ = c.in_ok-more.more in
    let buf : List ℕ = c.loop-count.buf in
    let piece : List ℕ = c.read_at.new.buf in
    let room : length piece ≡ length buf - count = search rules in
    let bound : n ≤ length piece = c.in_ok-more.ensures.bound in
    let same_disk : content (g.O.Outside.observed c.loop-count.out) ≡ content (g.O.Outside.observed c.args.out.now) = ap (λ (d : Option Disk). option_map (λ (e : Disk). e.content) d) i.looks.disk in
    record {
      within = search (rules, overwrites);
      same = search (rules, overwrites);
      read = both_known (content (g.O.Outside.observed c.args.out.now)) _ _ _
          (λ (bytes : List ℕ) (was : (take count (drop at bytes) ≡ take count buf) × (count ≤ length bytes - at)) (more : (take n (drop (at + count) bytes) ≡ take n piece) × (n ≤ length bytes - (at + count)) × (n ≡ 0 → length bytes ≤ at + count)).
          read_more bytes buf piece (post_of count (length buf - count) buf) at count n i.within was.0 was.1 more.0 more.1 bound)
          i.read (subst (λ (o : Option (List ℕ)). IfSome o (λ bytes. (take n (drop (at + count) bytes) ≡ take n piece) × (n ≤ length bytes - (at + count)) × (n ≡ 0 → length bytes ≤ at + count))) same_disk c.in_ok-more.ensures.value);
      looks = look_on g.O.Outside.observed g.O.Outside.moment c.args.out.now c.loop-count.out c.read_at.new.self i.looks
          (look_one g.O.Outside.observed g.O.Outside.moment c.loop-count.out c.read_at.new.self c.read_at.ensures.disk c.read_at.ensures.rest c.read_at.ensures.cause.later c.read_at.ensures.time c.read_at.ensures.inside);
    }
