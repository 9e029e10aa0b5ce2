use Rattle.std.proofs.Common.{◌≡◌, ◌+◌, ◌++◌, ◌∷◌, [], ℕ, List, length, map, lit<, arith, sym, ◌∙◌, ap}
use Rattle.std.proofs.lemmas.Iterator.Consumers.{YieldsList-turn, YieldsList-end}
use Rattle.std.proofs.lemmas.Iterator.Splits.{YieldsList-from_str_split}
use Rattle.std.proofs.lemmas.List.{length_push, length-map, map-append}
use denote.Ref.{Bor}
use Rattle.ua_node_files.specs.Namespaces.{first_index}
use Rattle.ua_node_files.proofs.Naming.{turn_named, turn_refused, turn_skipped, turns_named}
use Rattle.ua_node_files.proofs.namespace.namespaces.Goals as goal

-- what a borrowed text reads
abbrev now : Bor (List ℕ) → List ℕ
now uri = uri.now

pub loop-line-preserved-in-Continue-branch-3 : goal.loop-line-preserved-in-Continue-branch-3
loop-line-preserved-in-Continue-branch-3 c =
    let at = c.loop-line in
    let t = YieldsList-turn (YieldsList-from_str_split 10 c.args.text.now (lit< tt) (cc) (cc) (cc)) at.yielded _ at.yielded_by _ _ c.in-Some.line c.in-Some.is
    c.next.ensures.steps in
    let named = rw c.in-Some-2.is at c.in_ok-uri.ensures in
    let place : 2 + c.len.result ≡ first_index + length (map now at.uris.items) = omega (arith, c.len.ensures, at.uris.ok.0, length-map at.uris.items now) in
    let more : map now c.push.new.self.items ≡ map now at.uris.items ++ now c.in-Some-2.uri ∷ [] = ap (map now) c.in_ok-push-in-Some-2.ensures.items
    ∙ map-append now at.uris.items (c.in-Some-2.uri ∷ []) in (
      (let long = length_push at.yielded c.in-Some.line in let was = at.invariant.0 in omega arith),
      turn_named c.args.text.now at.number (length at.yielded) c.in-Some.line.now c.without_return-line.result.now (map now at.uris.items) c.in-Some-2.uri.now _
          _ at.invariant.0 t at.invariant.1
          c.without_return-line.ensures (sym c.is_namespace_line.ensures ∙ c.if-is_namespace_line.true) place named more,
    )

pub returns-in-None-2-clause-fault : goal.returns-in-None-2-clause-fault
returns-in-None-2-clause-fault c =
    let at = c.loop-line in
    let t = YieldsList-turn (YieldsList-from_str_split 10 c.args.text.now (lit< tt) (cc) (cc) (cc)) at.yielded _ at.yielded_by _ _ c.in-Some.line c.in-Some.is
    c.next.ensures.steps in
    let none = rw c.in-None-2.is at c.in_ok-uri.ensures in
    let place : 2 + c.len.result ≡ first_index + length (map now at.uris.items) = omega (arith, c.len.ensures, at.uris.ok.0, length-map at.uris.items now) in
    turn_refused c.args.text.now at.number (length at.yielded) c.in-Some.line.now c.without_return-line.result.now (map now at.uris.items) _ at.invariant.0 t
    at.invariant.1 c.without_return-line.ensures
    (sym c.is_namespace_line.ensures ∙ c.if-is_namespace_line.true) place none

pub loop-line-preserved : goal.loop-line-preserved
loop-line-preserved c =
    let at = c.loop-line in
    let t = YieldsList-turn (YieldsList-from_str_split 10 c.args.text.now (lit< tt) (cc) (cc) (cc)) at.yielded _ at.yielded_by _ _ c.in-Some.line c.in-Some.is
    c.next.ensures.steps in (
      (let long = length_push at.yielded c.in-Some.line in let was = at.invariant.0 in omega arith),
      turn_skipped c.args.text.now at.number (length at.yielded) c.in-Some.line.now c.without_return-line.result.now (map now at.uris.items) at.invariant.0 t
          at.invariant.1 c.without_return-line.ensures
          (sym c.is_namespace_line.ensures ∙ c.if-is_namespace_line.false),
    )

pub returns-clause-named : goal.returns-clause-named
returns-clause-named c =
    let at = c.loop-line in
    let t = YieldsList-end (YieldsList-from_str_split 10 c.args.text.now (lit< tt) (cc) (cc) (cc)) at.yielded _ at.yielded_by _ _ c.in-None.is
    c.next.ensures.steps in
    turns_named c.args.text.now at.number (length at.yielded) (map now at.uris.items) at.invariant.0 t.1 at.invariant.1
