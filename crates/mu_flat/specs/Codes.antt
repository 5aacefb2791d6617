-- How a store is coded as plain data.
use Rattle.std.specs.Prelude.{refl}
use Rattle.std.specs.Coded.{Coded, code_by, coded×, coded_ℕ, coded_list}
use Rattle.std.specs.FinMap as map
use Rattle.std.specs.FinSet as set
use Rattle.mu_tree.specs.Maps.{MapOf, NamesOf}
use Rattle.mu_tree.specs.contracts.claim.Definition as definition
use Rattle.mu_tree.specs.declared.claim.Definition.{Definition}
use Rattle.mu_decl.specs.contracts.declaration.ConstDecl as constant
use Rattle.mu_decl.specs.contracts.declaration.Statement as statement
use Rattle.mu_decl.specs.declared.declaration.ConstDecl.{ConstDecl}
use Rattle.mu_decl.specs.declared.declaration.Statement.{Statement}
use Rattle.mu_proof.specs.contracts.items.Item as item
use Rattle.mu_flat.specs.ProofTables.{ProofsOf}
use Rattle.mu_flat.specs.Entries.{Entries}

-- the code of a store's entries: that of its five maps
abbrev pub code : Coded Entries
code = code_by (MapOf NamesOf × (MapOf ConstDecl × (MapOf Definition × (MapOf Statement × ProofsOf))))
    (coded× (map.code (coded_list coded_ℕ) (set.code (coded_list coded_ℕ))) (coded× (map.code (coded_list coded_ℕ) constant.the_row.coded)
    (coded× (map.code (coded_list coded_ℕ) definition.the_row.coded) (coded× (map.code (coded_list coded_ℕ) statement.the_row.coded)
    (map.code (coded_list coded_ℕ) (map.code (coded_list coded_ℕ) (coded_list item.the_row.coded)))))))
    (λ e. (e.units, (e.constants, (e.definitions, (e.rules, e.proofs)))))
    (λ p. record { units = p.0; constants = p.1.0; definitions = p.1.1.0; rules = p.1.1.1.0; proofs = p.1.1.1.1 })
    (λ _. refl)
