use Rattle.std.proofs.Common.{refl, sym, subst}
use Rattle.ua_chunk.specs.Assembling.{octet_limit, chunk_limit, last_number}
use Rattle.ua_chunk.specs.Refusal.{reasons}
use Rattle.ua_channel.specs.inside.ClientParts.{IsStopFor, refused_reasons}
use Rattle.ua_channel.specs.declared.end_fault.EndFault.{EndFault}
use Rattle.ua_channel.proofs.ClientChunks.{accepts, refuses}
use Rattle.ua_channel.proofs.client.talking.Talking.accept.Goals as goal

pub returns-in-Ok : goal.returns-in-Ok
returns-in-Ok c = λ cs s. (
  accepts (reasons (octet_limit c.args.self.now.assembler) (chunk_limit c.args.self.now.assembler) (last_number c.args.self.now.assembler) cs c.args.chunk)
      (c.in-Ok.ensures.faults cs s),
  record {
    new_is = refl;
    stands = c.in-Ok.ensures.stands cs s;
    last_is = c.in-Ok.ensures.last;
    limits = c.in-Ok.ensures.limits;
    items_are = c.in-Ok.ensures.items cs s;
    parts_are = c.in-Ok.ensures.parts cs s;
  },
)

pub returns-in-Err : goal.returns-in-Err
returns-in-Err c = λ cs s.
    subst (λ (x : EndFault). IsStopFor (refused_reasons c.args.self.now cs c.args.chunk) x) (sym c.from_chunk.ensures)
    (refuses (reasons (octet_limit c.args.self.now.assembler) (chunk_limit c.args.self.now.assembler) (last_number c.args.self.now.assembler) cs c.args.chunk)
    c.in-Err.fault (c.in-Err.ensures.faults cs s))
