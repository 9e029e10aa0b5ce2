use Rattle.std.proofs.Common.{refl, sym, ◌∙◌, []}
use Rattle.ua_concurrent.proofs.Stepping.{sent_none}
use Rattle.ua_concurrent.specs.Acts.{own_id}
use Rattle.ua_server.specs.Sharing.{opened}
use Rattle.ua_concurrent.proofs.conversation.Conversation.new.Goals as goal

pub returns-clause-stands : goal.returns-clause-stands
returns-clause-stands g c = λ es first now told state fresh. record {
  octets = [];
  written = [];
  come = (c.new.ensures.among own_id _ es first now refl told state, sent_none c.args.number (opened first) es told ∙ sym c.new-2.ensures.items);
  carried = λ d e. fresh d e;
}
