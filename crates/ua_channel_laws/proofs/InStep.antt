-- Both ends stay in step.
use Rattle.std.proofs.Common.{◌≡◌, ◌⊎◌, inl, inr, ℕ, zero, suc, ◌<◌, ◌≤◌, ◌^◌, min, Bool, true, false, not, cond, ◌&&◌}
use Rattle.std.proofs.Common.{◌||◌, eqb, ltb, List, [], ◌∷◌, ◌++◌, Option, Some, length, refl, sym, subst, ◌∙◌, ap, arith}
use Rattle.std.proofs.lemmas.Bool.{eq-eqb, eqb-false, le-ltb, ltb-false, ne_eqb, or_parts}
use Rattle.std.proofs.Math.Bool.{and-false}
use Rattle.std.proofs.lemmas.List.Folds.{list_any-append}
use Rattle.ua_wire.proofs.Readers.{some_is}
use Rattle.ua_frame.specs.declared.ack.Ack.{Ack}
use Rattle.ua_frame.specs.declared.hello.Hello.{Hello}
use Rattle.ua_frame.specs.Limits.{tighter}
use Rattle.ua_frame.specs.declared.limits.Limits.{Limits}
use Rattle.ua_frame.specs.Agreement.{ack_to}
use Rattle.ua_chunk.specs.Cutting.{pieces}
use Rattle.ua_chunk.specs.Refusal.{passes}
use Rattle.ua_channel.specs.Asks.{is_in}
use Rattle.ua_channel.specs.ClientAsks.{is_too_large, room_of}
use Rattle.ua_channel_laws.specs.ClientReads.{AtClient, IsLaneBack, IsTighter, lane_from, opened_at, with_answer, with_call, with_renewal, with_reply}
use Rattle.ua_channel.specs.ClientSends.{hello_to}
use Rattle.ua_channel_laws.specs.InStep.{AreInStep, lane_back}
use Rattle.ua_channel.specs.Received.{latest, latest_behind}
use Rattle.ua_channel_laws.specs.ServerReads.{AtServer, IsBodyFor, IsLaneTo, greeted_at, with_message, with_token}
use Rattle.ua_channel.proofs.HeldTokens.{stays_in}

or_true : (b : Bool) → (b || true) ≡ true
or_true true = refl
or_true false = refl

-- the last of a list is in it
last_behind : (before : Option ℕ) (n : ℕ) (ms : List ℕ) → latest_behind before ms ≡ Some n → (before ≡ Some n) ⊎ (is_in n ms ≡ true)
last_behind before n [] e = inl e
last_behind before n (m ∷ ms) e = either (last_behind (Some m) n ms e)
  where
    either : (Some m ≡ Some n) ⊎ (is_in n ms ≡ true) → (before ≡ Some n) ⊎ ((eqb m n || is_in n ms) ≡ true)
    either (inl same) = inr (rw (eq-eqb m n (some_is m n same)))
    either (inr there) = inr (rw there (or_true (eqb m n)))

last_in : (n : ℕ) (ms : List ℕ) → latest ms ≡ Some n → is_in n ms ≡ true
last_in n [] e = absurd cc
last_in n (m ∷ ms) e = either (last_behind (Some m) n ms e)
  where
    either : (Some m ≡ Some n) ⊎ (is_in n ms ≡ true) → (eqb m n || is_in n ms) ≡ true
    either (inl same) = rw (eq-eqb m n (some_is m n same))
    either (inr there) = rw there (or_true (eqb m n))

pub in_more : (n m : ℕ) (ms : List ℕ) → is_in n ms ≡ true → is_in n (ms ++ m ∷ []) ≡ true
in_more n m ms e = list_any-append (λ (k : ℕ). eqb k n) ms (m ∷ []) ∙ rw e

-- a number that is not 0 is some
some_number : (n : ℕ) → eqb n 0 ≡ false → 0 < n
some_number zero e = absurd (eqb-false zero 0 e refl)
some_number (suc n) e = omega arith

-- what is within a limit that is some is no more than it
within_some : (limit n : ℕ) → 0 < limit → passes limit n ≡ false → n ≤ limit
within_some limit n some within =
    let is : eqb limit 0 ≡ false = ne_eqb limit 0 (λ e. omega (arith, some, e)) in
    ltb-false limit n (subst (λ (b : Bool). (not b && ltb limit n) ≡ false) is within)

-- no more than a limit is within it
within_few : (limit n : ℕ) → n ≤ limit → passes limit n ≡ false
within_few limit n few = rw (le-ltb limit n few) (and-false (not (eqb limit 0)))

-- what is within the smaller of two limits is within the first
tighter_by : (x y : Bool) (a b n : ℕ) → eqb a 0 ≡ x → eqb b 0 ≡ y → passes (cond x b (cond y a (min a b))) n ≡ false → passes a n ≡ false
tighter_by true y a b n is other within = rw is
tighter_by false true a b n is other within = within
tighter_by false false a b n is other within =
    let first = some_number a is in
    let second = some_number b other in
    let few = within_some (min a b) n (omega (arith, first, second)) within in
    within_few a n (omega (arith, few))

tighter_first : (a b : ℕ) → IsTighter (tighter a b) a
tighter_first a b n within = tighter_by (eqb a 0) (eqb b 0) a b n refl refl within

module _ (server client : Limits) (url : Option (List ℕ)) (channel : ℕ) (s : AtServer) (c : AtClient) (h : AreInStep server client url channel s c) where
  receives : c.ack.receive_buffer_size ≡ min server.receive_buffer_size client.send_buffer_size
  receives = rw h.ack_is

  sends : c.ack.send_buffer_size ≡ min server.send_buffer_size client.receive_buffer_size
  sends = rw h.ack_is

  taken_size : (ack_to s.hello server).receive_buffer_size ≡ min server.receive_buffer_size client.send_buffer_size
  taken_size = rw h.hello_is

  sent_size : (ack_to s.hello server).send_buffer_size ≡ min server.send_buffer_size client.receive_buffer_size
  sent_size = rw h.hello_is

  -- the client's calls go to the server
  pub lane_to : IsLaneTo server channel s (lane_from c)
  lane_to = record {
    on = h.channel_is;
    taken = h.taken;
    some = omega (arith, receives, server.receives, client.sends);
    fits = omega (arith, receives, taken_size, server.receives, client.sends);
  }

  -- the server's replies go to the client
  pub lane_from_server : channel < 2 ^ 32 → s.used < 2 ^ 32 → IsLaneBack client c (lane_back server channel s)
  lane_from_server on few = record {
    on = sym h.channel_is;
    held = h.held;
    on_small = on;
    token_small = few;
    some = omega (arith, sent_size, server.sends, client.receives);
    fits = omega (arith, sent_size, sends, server.sends, client.receives);
    octets = rw (ap (λ (x : Hello). x.max_message_size) h.hello_is) (tighter_first client.max_message_size server.max_response_size);
    chunks = rw h.hello_is;
  }

  -- a body that the client asks is within the server's limits
  pub body_for : (body : List ℕ) → 0 < length body → is_too_large c.ack body ≡ false → IsBodyFor server (room_of c.ack) body
  body_for body some fits =
      let both = or_parts (passes c.ack.max_message_size (length body)) (passes c.ack.max_chunk_count (length (pieces (room_of c.ack) body))) fits in
      record {
        some = some;
        octets_fit = ap (λ (a : Ack). passes a.max_message_size (length body)) (sym h.ack_is) ∙ both.0;
        chunks_fit = ap (λ (a : Ack). passes a.max_chunk_count (length (pieces (room_of c.ack) body))) (sym h.ack_is) ∙ both.1;
      }

  -- they stay in step
  pub in_step_call : (body : List ℕ) (id : ℕ) → latest c.tokens ≡ Some c.newest
      → AreInStep server client url channel (with_message s (lane_from c) body) (with_call c id)
  in_step_call body id newest =
      record {
        hello_is = h.hello_is;
        ack_is = h.ack_is;
        channel_is = h.channel_is;
        taken = record { not_before = omega arith; issued = h.taken.issued };
        held = last_in c.newest c.tokens newest;
      }

  pub in_step_reply : (id next : ℕ) → AreInStep server client url channel s (with_reply c s.used id next)
  in_step_reply id next = record {
    hello_is = h.hello_is;
    ack_is = h.ack_is;
    channel_is = h.channel_is;
    taken = h.taken;
    held = stays_in s.used c.tokens h.held;
  }

  pub in_step_renewal : (id : ℕ) → AreInStep server client url channel (with_token s) (with_renewal c id)
  in_step_renewal id =
      record {
        hello_is = h.hello_is;
        ack_is = h.ack_is;
        channel_is = h.channel_is;
        taken = record { not_before = h.taken.not_before; issued = omega (arith, h.taken.issued) };
        held = h.held;
      }

  pub in_step_answer : (next : ℕ) → AreInStep server client url channel s (with_answer c s.issued next)
  in_step_answer next =
      record {
        hello_is = h.hello_is;
        ack_is = h.ack_is;
        channel_is = h.channel_is;
        taken = record { not_before = omega (arith, h.taken.not_before, h.taken.issued); issued = omega arith };
        held = in_more s.used s.issued c.tokens h.held;
      }

-- they are in step behind the opening
pub in_step_opened : (server client : Limits) (url : Option (List ℕ)) (channel next : ℕ)
    → AreInStep server client url channel (with_token (greeted_at (hello_to client url))) (opened_at (ack_to (hello_to client url) server) channel 1 next)
in_step_opened server client url channel next =
    record { hello_is = refl; ack_is = refl; channel_is = refl; taken = record { not_before = omega arith; issued = omega arith }; held = refl }
