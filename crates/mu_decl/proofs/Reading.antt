-- What the top of a pattern is as it is read.
use Rattle.std.proofs.Common.{◌≡◌, ℕ, ◌+◌, List, map, Bor}
use Rattle.mu_decl.specs.declared.bare.Bare.{Bare}
use Rattle.mu_decl.specs.declared.bare.Bare.TheVariants as bare
use Rattle.mu_decl.specs.declared.instantiating.Abstraction.{Abstraction}
use Rattle.mu_decl.specs.declared.pairing.Reading.{Reading}
use Rattle.mu_decl.specs.declared.pairing.Reading.TheVariants.{Instantiated, Opened}
use Rattle.mu_decl.specs.Instantiating.{instantiated, instance}
use Rattle.mu_decl.specs.Opening.{opened_index}
use Rattle.mu_decl.specs.Comparing.{read}
use Rattle.mu_decl.proofs.OpeningEquations.{open-var, open-index, open-app, open-meta, open-bind, instantiated-var, instantiated-index, instantiated-app, instantiated-meta, instantiated-bind}

pub read-var : (given : List Abstraction) (r : Reading) (x : List ℕ) → read given r (bare.Var x) ≡ bare.Var x
read-var given Instantiated x = instantiated-var given x
read-var given (Opened arguments depth) x = open-var (map (instantiated given) arguments.now) depth x

pub read-app : (given : List Abstraction) (r : Reading) (f : List ℕ) (parts : List Bare) → read given r (bare.App f parts) ≡ bare.App f (map (read given r) parts)
read-app given Instantiated f parts = instantiated-app given f parts
read-app given (Opened arguments depth) f parts = open-app (map (instantiated given) arguments.now) depth f parts

pub read-meta-opened : (given : List Abstraction) (arguments : Bor (List Bare)) (depth : ℕ) (m : List ℕ) (parts : List Bare) → read given (Opened arguments depth) (bare.Meta m parts) ≡ bare.Meta m (map (read given (Opened arguments depth)) parts)
read-meta-opened given arguments depth m parts = open-meta (map (instantiated given) arguments.now) depth m parts

pub read-meta-plain : (given : List Abstraction) (m : List ℕ) (parts : List Bare) → read given Instantiated (bare.Meta m parts) ≡ instance given m (map (instantiated given) parts)
read-meta-plain given m parts = instantiated-meta given m parts

pub read-bind-plain : (given : List Abstraction) (b : List ℕ) (domain body : Bare) → read given Instantiated (bare.Bind b domain body) ≡ bare.Bind b (read given Instantiated domain) (read given Instantiated body)
read-bind-plain given b domain body = instantiated-bind given b domain body

pub read-bind-opened : (given : List Abstraction) (arguments : Bor (List Bare)) (depth : ℕ) (b : List ℕ) (domain body : Bare) → read given (Opened arguments depth) (bare.Bind b domain body) ≡ bare.Bind b (read given (Opened arguments depth) domain) (read given (Opened arguments (depth + 1)) body)
read-bind-opened given arguments depth b domain body = open-bind (map (instantiated given) arguments.now) depth b domain body

pub read-index-plain : (given : List Abstraction) (i : ℕ) → read given Instantiated (bare.Index i) ≡ bare.Index i
read-index-plain given i = instantiated-index given i

pub read-index-opened : (given : List Abstraction) (arguments : Bor (List Bare)) (depth i : ℕ) → read given (Opened arguments depth) (bare.Index i) ≡ opened_index (map (instantiated given) arguments.now) depth i
read-index-opened given arguments depth i = open-index (map (instantiated given) arguments.now) depth i

pub ruleset read_equations = (read-var, read-app, read-meta-opened, read-meta-plain, read-bind-plain, read-bind-opened, read-index-plain, read-index-opened)
