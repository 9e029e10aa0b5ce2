use Rattle.ua_server.specs.Served.{channel_in}
use Rattle.ua_headline.proofs.Doing.{linked_got, linked_told}
use Rattle.ua_headline.proofs.laws.clients_do_turns.Goals as goal

pub returns-clause-turns : goal.returns-clause-turns
returns-clause-turns c = λ e deeds now asks got l own. linked_got c.ends_connect.ensures e deeds now (channel_in c.args.server.now) c.args.client.now asks got l
    own

pub returns-clause-told : goal.returns-clause-told
returns-clause-told c = λ e deeds now asks got l. linked_told c.ends_connect.ensures e deeds now (channel_in c.args.server.now) asks got l
