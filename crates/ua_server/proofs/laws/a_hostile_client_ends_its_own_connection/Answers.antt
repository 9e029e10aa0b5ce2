use Rattle.ua_server.proofs.laws.a_hostile_client_ends_its_own_connection.Goals as goal

pub returns-clause-refused : goal.returns-clause-refused
returns-clause-refused c = λ channels k x octets out es new first before now code e. (e.0.frames, e.0.rest, e.0.run, e.0.stops, e.0.told_is, e.1)

pub returns-clause-holds : goal.returns-clause-holds
returns-clause-holds c = λ channels k x session octets es first now s. (s.goes.frames, s.goes.rest, s.goes.stands)
