-- How the library describes itself, and words for its numbers and those of the standard.
use Rattle.std.specs.Prelude.{◌≡◌, ℕ, cond, nat_eq, List, Option, Some, None, codes}
use Rattle.ua_c.specs.Status.{unknown}
use Rattle.ua_c.specs.Texts.{IsBufferKept, Puts}

-- the version 0.1.0: 65536 times the first number, 256 times the second, and the third
abbrev pub version : ℕ
version = 256

-- a text for each status
abbrev pub text_of_status : ℕ → Option (List ℕ)
text_of_status k =
    cond (nat_eq k 0) (Some (codes "the call did what it is for")) (
    cond (nat_eq k 1) (Some (codes "memory was refused")) (
    cond (nat_eq k 2) (Some (codes "the limits are below the least")) (
    cond (nat_eq k 3) (Some (codes "a line of the node file is none")) (
    cond (nat_eq k 4) (Some (codes "the handle holds nothing")) (
    cond (nat_eq k 5) (Some (codes "the connection ended or failed before")) (
    cond (nat_eq k 6) (Some (codes "the connection was refused")) (
    cond (nat_eq k 7) (Some (codes "the client closed the connection")) (
    cond (nat_eq k 8) (Some (codes "octets wait to be fetched")) (
    cond (nat_eq k 9) (Some (codes "a text is none of those that the call takes")) (
    cond (nat_eq k 10) (Some (codes "the handle holds a machine of the other kind")) (
    cond (nat_eq k 11) (Some (codes "the channel is not open")) (
    cond (nat_eq k 12) (Some (codes "64 calls are unanswered")) (
    cond (nat_eq k 13) (Some (codes "a renewal is unanswered")) (
    cond (nat_eq k 14) (Some (codes "16 tokens are held")) (
    cond (nat_eq k 15) (Some (codes "all request ids were used")) (
    cond (nat_eq k 16) (Some (codes "the server takes no message of so many octets or chunks")) (
    cond (nat_eq k 17) (Some (codes "the body of a call is empty")) (
    cond (nat_eq k 18) (Some (codes "the buffer is too small")) (
    cond (nat_eq k 19) (Some (codes "there is no such side")) (
    cond (nat_eq k 20) (Some (codes "the octets encode nothing that the call takes")) (
    cond (nat_eq k 21) (Some (codes "the service failed")) (
    cond (nat_eq k 22) (Some (codes "the response is that of another request, or nothing has this number")) (
    cond (nat_eq k 23) (Some (codes "the node takes no value of this type")) (
    cond (nat_eq k 24) (Some (codes "the reading has no value within the octets, or no source time")) (
    cond (nat_eq k 25) (Some (codes "nothing more is there")) (
    cond (nat_eq k 26) (Some (codes "no endpoint has a token policy that fits")) (
    cond (nat_eq k 27) (Some (codes "the value has no text that denotes it")) (
    None))))))))))))))))))))))))))))

-- a text is put into a buffer, if there is one; else nothing was written
abbrev pub PutsWord : Option (List ℕ) → List ℕ → List ℕ → ℕ → ℕ → Type 0
PutsWord None before after needed status = IsBufferKept before after needed × (status ≡ unknown)
PutsWord (Some text) before after needed status = Puts text before after needed status
