use Rattle.std.proofs.Common.{refl, ap}
use Rattle.ua_channel.specs.declared.client.channel.ClientChannel.{ClientChannel}
use Rattle.ua_client.specs.declared.connection.Connection.{Connection}
use Rattle.ua_client.proofs.Renewings.{asks-as, renews-refused, renews-unwritten, renews-last, heard-none}
use Rattle.ua_client.proofs.connection.Connection.renew.Goals as goal

pub returns-in-Err-clause-renews : goal.returns-in-Err-clause-renews
returns-in-Err-clause-renews g c =
    let mid : ClientChannel → Connection = λ channel. record { alloc = c.args.self.now.alloc; channel = channel; piece = c.args.self.now.piece } in
    rw (c.of_ask.ensures) (renews-refused c.args.moment c.args.self.now (mid c.renew.new.self) (g.L.Line.traffic c.args.line.now) c.in-Err.fault
    (ap mid c.in-Err.ensures.unchanged) c.in-Err.ensures.answers
    (λ s at. c.clients_are_settled.ensures.idle c.args.self.now.channel s c.requires.settled at))

pub returns-in_default-clause-renews : goal.returns-in_default-clause-renews
returns-in_default-clause-renews g c =
    let mid : Connection = record { alloc = c.args.self.now.alloc; channel = c.renew.new.self; piece = c.args.self.now.piece } in
    renews-unwritten c.args.moment c.args.self.now mid mid c.in-Ok.asked.0 c.deref.result.now
    (asks-as c.args.moment c.args.self.now.channel c.renew.new.self c.in-Ok.asked.0 c.in-Ok.asked.1.items c.deref.result.now c.deref.ensures.value
    (record { refused = c.in-Ok.ensures.answers; sends = c.in-Ok.ensures.sent; stands = c.in-Ok.ensures.stands; same = c.in-Ok.ensures.same })) refl
    (g.L.Line.traffic c.args.line.now) (g.L.Line.traffic c.args.line.now) (g.L.Line.traffic c.send_whole.new.line)
    c.requires.settled (λ s at. c.clients_are_settled.ensures.idle c.args.self.now.channel s c.requires.settled at) refl c.in_default.ensures.some
    c.in_default.ensures.written

pub returns-clause-renews : goal.returns-clause-renews
returns-clause-renews g c =
    let mid : Connection = record { alloc = c.args.self.now.alloc; channel = c.renew.new.self; piece = c.args.self.now.piece } in
    renews-last c.args.moment c.args.self.now mid c.wait_until_renewed.new.self c.in-Ok.asked.0 c.deref.result.now
    (asks-as c.args.moment c.args.self.now.channel c.renew.new.self c.in-Ok.asked.0 c.in-Ok.asked.1.items c.deref.result.now c.deref.ensures.value
    (record { refused = c.in-Ok.ensures.answers; sends = c.in-Ok.ensures.sent; stands = c.in-Ok.ensures.stands; same = c.in-Ok.ensures.same })) refl
    (g.L.Line.traffic c.args.line.now) (g.L.Line.traffic c.send_whole.new.line) (g.L.Line.traffic c.wait_until_renewed.new.line)
    c.requires.settled (λ s at. c.clients_are_settled.ensures.idle c.args.self.now.channel s c.requires.settled at) c.client_goes_on.ensures
    c.wait_until_renewed.new.reads c.in-Ok-send_whole.ensures.written
    c.wait_until_renewed.result c.wait_until_renewed.ensures.waits

pub returns-clause-unchanged : goal.returns-clause-unchanged
returns-clause-unchanged g c k = absurd (heard-none c.wait_until_renewed.result c.wait_until_renewed.ensures.waits.faults k)
