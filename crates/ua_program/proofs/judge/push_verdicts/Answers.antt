use Rattle.std.proofs.Common.{◌++◌, ◌∙◌, List, ℕ, ap}
use Rattle.std.specs.Prelude.{codes}
use Rattle.ua_program.specs.Judges.{verdict_line}
use Rattle.ua_program.proofs.judge.push_verdicts.Goals as goal

pub returns : goal.returns
returns c = record {
  client = c.in_ok-client.client;
  judges_client = c.in_ok-client.ensures;
  client_place = c.place_of-client_place.result;
  is_client_place = c.place_of-client_place.ensures;
  server = c.in_ok-server.server;
  judges_server = c.in_ok-server.ensures;
  server_place = c.place_of-server_place.result;
  is_server_place = c.place_of-server_place.ensures;
  new_is =
      c.in_ok-push_line-2.ensures
      ∙ ap (λ (t : List ℕ). t ++ verdict_line (codes "server") c.args.names c.place_of-server_place.result c.in_ok-server.server) c.in_ok-push_line.ensures;
  broken_is = c.are_broken.ensures;
}
