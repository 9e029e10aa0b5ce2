use Rattle.std.proofs.lemmas.Result.{err_from_is_err_and}
use Rattle.ua_structures.proofs.Thinned.{placed_fails, request_thinned}
use Rattle.ua_structures.proofs.attribute.WriteRequest.read_thinned_into.Goals as goal

pub returns-in_err-self-clause-exact : goal.returns-in_err-self-clause-exact
returns-in_err-self-clause-exact g c =
    let p = err_from_is_err_and c.from_residual-in_err-self.result c.from_residual-in_err-self.ensures.1 in
    rw (p.1, p.2) (placed_fails (g.T.TakesTypes.takes c.args.types.now) c.args.depth (g.S.Source.octets c.args.src.now)
    (g.S.Source.octets c.read_into.new.src) (g.S.Source.octets c.read_array.new.src)
    c.read_into.new.self (record { request_header = c.read_into.new.self; nodes_to_write = c.args.self.now.nodes_to_write }) c.in_err-self.field-0.0
    c.in_ok-read_into.ensures.exact c.in_err-self.ensures.exact)

pub returns-clause-exact : goal.returns-clause-exact
returns-clause-exact g c =
    request_thinned (g.T.TakesTypes.takes c.args.types.now) c.args.depth (g.S.Source.octets c.args.src.now) (g.S.Source.octets c.read_into.new.src)
    (g.S.Source.octets c.read_array.new.src)
    c.read_into.new.self c.in_ok-self.field-0 c.in_ok-read_into.ensures.exact c.in_ok-self.ensures.exact
