use Rattle.ua_pair.proofs.Standings.{stands_first}
use Rattle.ua_pair.proofs.teller.Teller.new.Goals as goal

pub returns-clause-stands : goal.returns-clause-stands
returns-clause-stands c = stands_first (record { alloc = c.args.alloc; options = c.args.options; assembler = c.new.result }) c.new.ensures.stands
    c.new.ensures.last c.new.ensures.octets c.new.ensures.chunks
