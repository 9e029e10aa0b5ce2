-- What a line to a server hands out and takes.
use Rattle.std.proofs.Common.{◌≡◌, ℕ, ◌+◌, ◌≤◌, List, [], ◌++◌, length, take, drop, sym, ◌∙◌, ap, append-nil}
use Rattle.ua_loopback.specs.Beginning.{Beginning}
use Rattle.ua_loopback.specs.Says.{server_output}
use Rattle.ua_loopback.proofs.Pieces.{handed_first}
use Rattle.ua_loopback.proofs.Saying.{said_further}

-- what is handed out is next, whatever more is written
pub read_more : (b : Beginning) (up down buffer : List ℕ) (read n : ℕ) → down ≡ server_output b up → read + n ≤ length down → (more : List ℕ)
    → drop read (server_output b (up ++ more)) ≡ take n (take n (drop read down) ++ drop n buffer) ++ drop (read + n) (server_output b (up ++ more))
read_more b up down buffer read n is few more =
    let s = said_further b up more in
    let all : server_output b (up ++ more) ≡ down ++ s.further = s.parts ∙ ap (λ (o : List ℕ). o ++ s.further) (sym is) in
    ap (drop read) all
    ∙ (handed_first down s.further buffer read n few
    ∙ ap (λ (o : List ℕ). take n (take n (drop read down) ++ drop n buffer) ++ drop (read + n) o) (sym all))

-- where all is handed out none are to come
pub read_none : (b : Beginning) (up down : List ℕ) (read : ℕ) → down ≡ server_output b up → drop read down ≡ [] → drop read (server_output b (up ++ [])) ≡ []
read_none b up down read is none = ap (λ (o : List ℕ). drop read (server_output b o)) (append-nil up) ∙ (ap (drop read) (sym is) ∙ none)
