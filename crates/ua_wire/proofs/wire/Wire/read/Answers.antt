use Rattle.ua_wire.proofs.ReadAnswers.{found_by, levels_by, counted_by, none_by}
use Rattle.ua_wire.proofs.wire.Wire.read.Goals as goal

pub returns-clause-found : goal.returns-clause-found
returns-clause-found g c = found_by g.Self.Wire.format c.lawful.ensures c.args.depth (g.S.Source.octets c.args.src.now) (g.S.Source.octets c.read_value.new.src)
    c.read_value.result c.read_value.ensures.exact

pub returns-clause-levels : goal.returns-clause-levels
returns-clause-levels g c = levels_by g.Self.Wire.format c.lawful.ensures c.args.depth (g.S.Source.octets c.args.src.now)
    (g.S.Source.octets c.read_value.new.src) c.read_value.result c.read_value.ensures.exact

pub returns-clause-counted : goal.returns-clause-counted
returns-clause-counted g c = counted_by g.Self.Wire.format c.lawful.ensures c.args.depth (g.S.Source.octets c.args.src.now)
    (g.S.Source.octets c.read_value.new.src) c.read_value.result c.read_value.ensures.exact

pub returns-clause-none : goal.returns-clause-none
returns-clause-none g c = none_by g.Self.Wire.format c.lawful.ensures c.args.depth (g.S.Source.octets c.args.src.now) (g.S.Source.octets c.read_value.new.src)
    c.read_value.result c.read_value.ensures.exact
