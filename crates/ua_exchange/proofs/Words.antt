-- The words of turns with one turn more, and what the two ends are.
use Rattle.std.proofs.Common.{◌≡◌, ℕ, ◌+◌, ◌≤◌, IsTrue, List, [], ◌∷◌, ◌++◌, Some, refl, sym, subst}
use Rattle.std.proofs.Math.Bridge.{le_prop}
use Rattle.std.proofs.lemmas.List.{map-append}
use Rattle.ua_wire.specs.Counted.{text}
use Rattle.ua_frame.specs.declared.limits.Limits.{Limits}
use Rattle.ua_exchange.specs.Programs.{AreOurs, program_limits, url}
use Rattle.ua_exchange.specs.Turns.{served_turn, served_turns}
use Rattle.ua_exchange.specs.declared.turn.Turn.{Turn}
use Rattle.ua_exchange.proofs.Texts.{word_fits}

-- ---- one turn more

pub served-push : (before : List Turn) (t : Turn) → served_turns (before ++ t ∷ []) ≡ served_turns before ++ served_turn t ∷ []
served-push before t = map-append served_turn before (t ∷ [])

-- ---- the program

-- limits of these sizes are those of the program, whatever shows that they may be set
abbrev IsProgram : ℕ → ℕ → ℕ → ℕ → ℕ → Type 0
IsProgram r s m c a = (p : 8192 ≤ r) (q : 8192 ≤ s) (o : 1 ≤ m) (k : 1 ≤ c)
    → ◌≡◌ {A = Limits} (record {
      receive_buffer_size = r;
      send_buffer_size = s;
      max_message_size = m;
      max_chunk_count = c;
      max_response_size = a;
      receives = p;
      sends = q;
      takes_octets = o;
      takes_chunks = k;
    }) program_limits

is_program : IsProgram 65535 65535 1048576 256 0
is_program p q o k = λ i. record {
  receive_buffer_size = 65535;
  send_buffer_size = 65535;
  max_message_size = 1048576;
  max_chunk_count = 256;
  max_response_size = 0;
  receives = le_prop p program_limits.receives i;
  sends = le_prop q program_limits.sends i;
  takes_octets = le_prop o program_limits.takes_octets i;
  takes_chunks = le_prop k program_limits.takes_chunks i;
}

pub limits_are : (limits : Limits) → AreOurs limits → limits ≡ program_limits
limits_are limits ours =
    subst (λ (r : ℕ). IsProgram r limits.send_buffer_size limits.max_message_size limits.max_chunk_count limits.max_response_size) (sym ours.receives)
    (subst (λ (s : ℕ). IsProgram 65535 s limits.max_message_size limits.max_chunk_count limits.max_response_size) (sym ours.sends)
    (subst (λ (m : ℕ). IsProgram 65535 65535 m limits.max_chunk_count limits.max_response_size) (sym ours.takes_octets)
    (subst (λ (c : ℕ). IsProgram 65535 65535 1048576 c limits.max_response_size) (sym ours.takes_chunks)
    (subst (λ (a : ℕ). IsProgram 65535 65535 1048576 256 a) (sym ours.answers_all) is_program))))
    limits.receives limits.sends limits.takes_octets limits.takes_chunks

pub url_fits : IsTrue (text.encodable (Some url))
url_fits = word_fits url refl refl
