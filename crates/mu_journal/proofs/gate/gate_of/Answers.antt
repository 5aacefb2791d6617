use Rattle.std.proofs.Common.{arith, rules}
use Rattle.mu_journal.proofs.Shown.{show_record}
use Rattle.mu_journal.proofs.gate.gate_of.Goals as goal

pub returns-then-fits_in-clause-gate : goal.returns-then-fits_in-clause-gate
returns-then-fits_in-clause-gate c content known whole there len =
    let fits = c.fits_in.ensures.yes (search rules) in
    show_record content c.args.at c.args.known.now known whole there (search rules) (omega arith) (omega arith) c.from_be_bytes-size.result c.args.len c.from_be_bytes-size.ensures len
    (omega (arith, c.type_inv.known 1)) (omega (arith, c.type_inv.known 2)) (omega (arith, c.type_inv.known 3)) (omega (arith, c.type_inv.known 4)) fits.0 fits.1 fits.2
