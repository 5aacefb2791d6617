-- What is known of the real standard input, standard output and journal.
use Rattle.std.specs.Prelude.{ℕ, Bool, List, None}
use Rattle.mu_outside.specs.Outsides.{Observed}

-- whether the journal is open, and how many calls of each kind failed so far
pub record HostState : Type 0 where
  pub attached : Bool
  pub read_faults : ℕ
  pub tell_faults : ℕ
  pub disk_faults : ℕ

-- these, and nothing of the bytes, under a clock that stands still
abbrev pub known_by : HostState → Observed
known_by host = record {
  left = None;
  told = None;
  disk = None;
  attached = host.attached;
  read_faults = host.read_faults;
  tell_faults = host.tell_faults;
  disk_faults = host.disk_faults;
  clock = 0;
}

-- no moment is known of
abbrev pub unknown : HostState → ℕ → List ℕ → List ℕ → Type 0
unknown host time image told = ⊥
