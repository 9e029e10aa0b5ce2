use Rattle.std.specs.Prelude.{[], Option}
use Rattle.std.proofs.Common.{sym, ◌∙◌, subst}
use Rattle.ua_server.specs.Served.{channel_in}
use Rattle.ua_server.specs.Sharing.{StandsAmong}
use Rattle.ua_server.specs.declared.session.Session.{Session}
use Rattle.ua_server.proofs.Sharings.{stands_first}
use Rattle.ua_server.proofs.connection.Connection.new.Goals as goal

pub returns-clause-among : goal.returns-clause-among
returns-clause-among c = λ channels k es first now channel none state.
    let begins = c.new.ensures.history first in
    subst (λ (o : Option Session). StandsAmong channels k (channel_in c.new.result) o [] es first now) (sym c.empty.ensures)
    (stands_first channels k (channel_in c.new.result) es first now begins.goes (sym begins.number_is) (c.new.ensures.channel ∙ sym channel) none state)
