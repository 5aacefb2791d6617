use Rattle.std.proofs.Common.{sym, subst}
use Rattle.mu_defs.specs.Base.{IsApart}
use Rattle.mu_defs.proofs.owned_table.OwnedTable+ConstDecl.with_base_names.Goals as goal

pub constants_within-requires-clause-apart : goal.constants_within-requires-clause-apart
constants_within-requires-clause-apart c = subst IsApart (sym c.self.view_is) c.requires
