use Rattle.std.proofs.Common.{◌++◌, [], List, ℕ, Bor, map, string_bytes}
use Rattle.ua_node_files.specs.Standard.{StandardLine, added_line, current_time_line, namespace_array, server_array, service_level, state}
use Rattle.ua_node_files.proofs.Adding.{at_end, then_more}
use Rattle.ua_node_files.proofs.standard.push_server.Goals as goal

pub returns : goal.returns
returns c =
    let r = c.push_line-4.result in
    let added = λ (line : StandardLine). added_line c.args.nodes.now line in
    let array = added (namespace_array (map (λ (uri : Bor (List ℕ)). uri.now) c.args.uris.now)) in
    let old = string_bytes c.args.out.now in
    let one = string_bytes c.push_line.new.out in
    let two = string_bytes c.push_namespace_array.new.out in
    let three = string_bytes c.push_line-2.new.out in
    let four = string_bytes c.push_line-3.new.out in
    let new = string_bytes c.push_line-4.new.out in
    let level = added service_level ++ [] in
    let states = added state ++ level in
    let times = added current_time_line ++ states in
    then_more r old (added server_array) (array ++ times) one new c.in_ok-push_line.ensures
    (then_more r one array times two new c.in_ok-push_namespace_array.ensures
    (then_more r two (added current_time_line) states three new c.in_ok-push_line-2.ensures
    (then_more r three (added state) level four new c.in_ok-push_line-3.ensures (at_end r four (added service_level) new c.push_line-4.ensures))))
