-- The fields are appended in order.
use Rattle.ua_wire.proofs.Appends.{more_then, pair_more}
use Rattle.ua_opening.specs.Field.{string}
use Rattle.ua_structures.specs.Discovery.{user_token_policy}
use Rattle.ua_structures.proofs.discovery_wire.UserTokenPolicyWire.append.Goals as goal

pub returns-clause-ok : goal.returns-clause-ok
unfolding user_token_policy
returns-clause-ok c =
    pair_more c.append_three.result c.args.out.now.items _ _ (string.canonical c.args.self.now.policy_id) _ _ c.in_ok-append_two.ensures.ok
    c.append_three.ensures.ok

pub returns-clause-err : goal.returns-clause-err
returns-clause-err c =
    let r = c.append_three.result in
    more_then r c.args.out.now.items _ _ _ c.in_ok-append_two.ensures.ok
    c.append_three.ensures.err
