-- The order in which the bytes of both sides were sent: places of the client's bytes, each with how many
-- of the server's had been sent by then.
use Rattle.std.specs.Prelude.{ℕ, nat_le, cond, List, [], ◌∷◌}
use Rattle.ua_judge.specs.declared.mark.Mark.{Mark}
use Rattle.ua_judge.specs.declared.named.Named.{Named}

-- how many of the server's bytes, of which there are all, had been sent at the first mark that is not
-- before this place of the client's
abbrev pub place_at : List Mark → ℕ → ℕ → ℕ
place_at [] end all = all
place_at (mark ∷ marks) end all = cond (nat_le end mark.up) mark.down (place_at marks end all)

-- a request, with how many of the server's bytes had been sent by its last one
abbrev pub placed : List Mark → ℕ → Named → Named
placed marks all request = record { number = request.number; place = place_at marks request.place all; opens = request.opens; kind = request.kind }
