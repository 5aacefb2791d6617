use Rattle.mu_graph.proofs.NameLemmas.{adds_on_ok}
use Rattle.mu_graph.proofs.names.NameSetKeySet.add.Goals as goal

pub returns : goal.returns
returns c = adds_on_ok c.args.self.now c.add.new.self c.args.key c.add.result c.add.ensures.ok
