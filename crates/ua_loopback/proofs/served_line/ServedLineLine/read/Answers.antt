use Rattle.std.proofs.Common.{rules, ◌≡◌, ◌++◌, ◌≤◌, ◌<◌, ◌+◌, ◌-◌, min, ℕ, List, [], length, take, drop, sym, ◌∙◌, ap, subst}
use Rattle.ua_loopback.specs.Says.{server_output}
use Rattle.ua_loopback.proofs.Lines.{read_more, read_none}
use Rattle.ua_loopback.proofs.Pieces.{none_left}
use Rattle.ua_loopback.proofs.served_line.ServedLineLine.read.Goals as goal

pub returns-clause-octets : goal.returns-clause-octets
returns-clause-octets g c =
    let i = c.self.inside in
    let b = g.W.Began.beginning in
    let n = c.front-n.result in
    let up : i.up.items ≡ c.args.self.now.up = search rules in
    let read : i.read ≡ c.args.self.now.read = search rules in
    let few : i.read + n ≤ length i.down.items = search rules in
    let put : c.copy_from_slice.new.self ≡ take n (drop i.read i.down.items) = search rules in
    let least : c.min.result ≡ min (length i.down.items - i.read) (length c.args.buffer.now) = search rules in
    let room : length (c.copy_from_slice.new.self ++ drop n c.args.buffer.now) ≡ length c.args.buffer.now = search rules in (
      λ more.
          ap (λ (k : ℕ). drop k (server_output b (c.args.self.now.up ++ more))) (sym read)
          ∙ (ap (λ (o : List ℕ). drop i.read (server_output b (o ++ more))) (sym up)
          ∙ (read_more b i.up.items i.down.items c.args.buffer.now i.read n c.self.invariant.0.down_is few more
          ∙ ap (λ (t : List ℕ). take n (t ++ drop n c.args.buffer.now) ++ drop (i.read + n) (server_output b (i.up.items ++ more))) (sym put))),
      up,
      λ none roomy.
          ap (λ (k : ℕ). drop k (server_output b (c.args.self.now.up ++ []))) (sym read)
          ∙ (ap (λ (o : List ℕ). drop i.read (server_output b (o ++ []))) (sym up)
          ∙ read_none b i.up.items i.down.items i.read c.self.invariant.0.down_is
          (none_left i.down.items i.read (length c.args.buffer.now) n (subst (λ (k : ℕ). 0 < k → 0 < n) least c.front-n.ensures.some) none
          (subst (λ (k : ℕ). 0 < k) room roomy))),
    )
