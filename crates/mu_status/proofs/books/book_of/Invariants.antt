use Rattle.std.proofs.Common.{◌≡◌, ◌≤◌, take}
use Rattle.mu_status.specs.Books.{IsBook}
use Rattle.mu_status.proofs.books.book_of.Given as goal

abbrev pub invariant-loop-member : goal.invariant-loop-member
invariant-loop-member l = record {
  book : IsBook l.store (take l.member-index l.members) l.rules;
  viewer : l.viewer.store.now ≡ l.store;
  work : l.initial.work.lines ≤ l.work.lines;
}
