-- That a response is cut where it is within the limits of both ends, and what its client has of it.
use Rattle.std.proofs.Common.{◌≡◌, ℕ, zero, suc, ◌<◌, ◌*◌, ◌-◌, Bool, true, false, not, ◌&&◌, ◌||◌}
use Rattle.std.proofs.Common.{cond, eqb, ltb, List, [], ◌∷◌, length, refl, sym, ◌∙◌, ap, arith}
use Rattle.std.specs.Prelude.{Ok, Err, min}
use Rattle.std.proofs.lemmas.Bool.{eqb-false, le-ltb, lt-ltb, ltb-false, ltb-true, ne_eqb}
use Rattle.ua_builtin.specs.Reasons.{first_reason}
use Rattle.ua_builtin.specs.Status.{of_code}
use Rattle.ua_frame.specs.Limits.{tighter}
use Rattle.ua_chunk.specs.Cutting.{cut_refusal, pieces}
use Rattle.ua_chunk.specs.Refusal.{passes}
use Rattle.ua_chunk.specs.declared.fault.CutFault.{CutFault}
use Rattle.ua_chunk.specs.declared.fault.CutFault.TheVariants.{TooManyChunks, TooManyOctets}
use Rattle.ua_chunk.proofs.Pieces.{more_pieces}
use Rattle.ua_channel.specs.Agreement.{agreement_of, lane_of}
use Rattle.ua_channel.specs.ClientSends.{hello_to}
use Rattle.ua_channel.specs.ClientTold.{ClientTold}
use Rattle.ua_channel_laws.specs.ClientReads.{told_reply}
use Rattle.ua_headline.specs.Headline.{replies_in, reply_of}
use Rattle.ua_headline.specs.Talk.{Ends}

-- ---- limits

some_number : (n : ℕ) → eqb n 0 ≡ false → 0 < n
some_number zero e = absurd (eqb-false zero 0 e refl)
some_number (suc n) e = omega arith

or_false : (x : Bool) → (x || false) ≡ x
or_false true = refl
or_false false = refl

or_three : (x y z : Bool) → ((x || y) || z) ≡ (x || (y || z))
or_three true y z = refl
or_three false y z = refl

pass_some : (limit n : ℕ) → 0 < limit → passes limit n ≡ ltb limit n
pass_some limit n some = ap (λ (b : Bool). not b && ltb limit n) (ne_eqb limit 0 (λ e. omega (arith, some, e)))

min_by : (x y : Bool) (a b n : ℕ) → ltb a n ≡ x → ltb b n ≡ y → ltb (min a b) n ≡ (x || y)
min_by true y a b n p q = lt-ltb (min a b) n (let l = ltb-true a n p in omega (arith, l))
min_by false true a b n p q = lt-ltb (min a b) n (let l = ltb-true b n q in omega (arith, l))
min_by false false a b n p q = le-ltb (min a b) n (let l = ltb-false a n p in let r = ltb-false b n q in omega (arith, l, r))

tight_by : (x y : Bool) (a b n : ℕ) → eqb a 0 ≡ x → eqb b 0 ≡ y → passes (cond x b (cond y a (min a b))) n ≡ (passes a n || passes b n)
tight_by true y a b n is other = sym (ap (λ (t : Bool). (not t && ltb a n) || passes b n) is)
tight_by false true a b n is other = sym (ap (λ (t : Bool). passes a n || (not t && ltb b n)) other ∙ or_false (passes a n))
tight_by false false a b n is other =
    let first = some_number a is in
    let second = some_number b other in
    pass_some (min a b) n (omega (arith, first, second))
    ∙ (min_by (ltb a n) (ltb b n) a b n refl refl
    ∙ sym (ap (λ (t : Bool). t || passes b n) (pass_some a n first) ∙ ap (λ (t : Bool). ltb a n || t) (pass_some b n second)))

tight : (a b n : ℕ) → passes (tighter a b) n ≡ (passes a n || passes b n)
tight a b n = tight_by (eqb a 0) (eqb b 0) a b n refl refl

pub chunks_pass : (chunks room : ℕ) (body : List ℕ) → 0 < chunks → 0 < room → passes chunks (length (pieces room body)) ≡ ltb (chunks * room) (length body)
chunks_pass chunks room body some roomy =
    more_pieces chunks room (length body) body roomy refl
    ∙ ap (λ (b : Bool). not b && ltb (chunks * room) (length body)) (ne_eqb chunks 0 (λ e. omega (arith, some, e)))

-- ---- a reply

reply_by : (x y : CutFault) (p q : Bool) (id : ℕ) (body : List ℕ) (rest : List ClientTold)
    → replies_in (told_reply (first_reason ((x, p) ∷ ((y, q) ∷ []))) id body ∷ rest)
    ≡ (id, cond (p || q) (Err (of_code 0x80B9_0000)) (Ok body)) ∷ replies_in rest
reply_by x y true q id body rest = refl
reply_by x y false true id body rest = refl
reply_by x y false false id body rest = refl

-- what a client has of the reply in the lane of the server that agreed to its Hello
pub replied_as : (e : Ends) (token : ℕ) (id : ℕ) (body : List ℕ) (rest : List ClientTold)
    → replies_in (told_reply (cut_refusal (lane_of e.channel token (agreement_of e.server (hello_to e.client e.url))) body) id body ∷ rest)
    ≡ (id, reply_of e body) ∷ replies_in rest
replied_as e token id body rest =
    let room : ℕ = min e.server.send_buffer_size e.client.receive_buffer_size - 24 in
    let p = tight e.client.max_message_size e.server.max_response_size (length body) in
    let q = chunks_pass e.client.max_chunk_count room body (omega (arith, e.client.takes_chunks)) (omega (arith, e.server.sends, e.client.receives)) in
    reply_by TooManyOctets TooManyChunks (passes (tighter e.client.max_message_size e.server.max_response_size) (length body))
    (passes e.client.max_chunk_count (length (pieces room body))) id body rest
    ∙ ap (λ (b : Bool). (id, cond b (Err (of_code 0x80B9_0000)) (Ok body)) ∷ replies_in rest)
    (ap (λ (t : Bool). t || passes e.client.max_chunk_count (length (pieces room body))) p
    ∙ (ap (λ (t : Bool). (passes e.client.max_message_size (length body) || passes e.server.max_response_size (length body)) || t) q
    ∙ or_three (passes e.client.max_message_size (length body)) (passes e.server.max_response_size (length body))
    (ltb (e.client.max_chunk_count * room) (length body))))
