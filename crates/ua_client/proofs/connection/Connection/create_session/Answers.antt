use Rattle.ua_channel.specs.Client.{url_of}
use Rattle.ua_client.specs.Session.{brings_token, creating_at}
use Rattle.ua_client.proofs.Sessions.{created, made-broken, made-unasked}
use Rattle.ua_client.proofs.connection.Connection.create_session.Goals as goal

pub returns-in_default-clause-creates : goal.returns-in_default-clause-creates
returns-in_default-clause-creates g c =
    made-unasked (creating_at (url_of c.args.self.now.channel) c.args.moment) brings_token c.args.self.now (g.L.Line.traffic c.args.line.now) c.args.reads.now

pub returns-in-Ok-serve-clause-creates : goal.returns-in-Ok-serve-clause-creates
returns-in-Ok-serve-clause-creates g c =
    created (url_of c.args.self.now.channel) c.args.moment c.in-Ok.request c.args.self.now c.serve.new.self (g.L.Line.traffic c.args.line.now)
    (g.L.Line.traffic c.serve.new.line) c.args.reads.now c.serve.new.reads
    c.in-Ok.ensures c.in-Ok-serve.reply c.in-Ok-serve.ensures.serves c.token_of.result c.token_of.ensures.token c.token_of.ensures.fault

pub returns-in-Err-clause-creates : goal.returns-in-Err-clause-creates
returns-in-Err-clause-creates g c =
    made-broken c.in-Ok.request c.args.self.now c.serve.new.self (g.L.Line.traffic c.args.line.now) (g.L.Line.traffic c.serve.new.line) c.args.reads.now
    c.serve.new.reads
    (creating_at (url_of c.args.self.now.channel) c.args.moment) c.in-Ok.ensures brings_token c.in-Err.fault c.in-Err.ensures.serves
