-- What a type takes, as it is told of a value that it does not take.
use Rattle.std.specs.Prelude.{ℕ, nat_eq, cond, Bool, List, [], ◌++◌, Option, None, Some, codes}

-- what a type takes besides where people write values, by its number: a decimal or a time
abbrev pub plain_form : ℕ → List ℕ
plain_form kind =
    cond (nat_eq kind 10) (codes "a decimal, or ") (
    cond (nat_eq kind 11) (codes "a decimal, or ") (
    cond (nat_eq kind 13) (codes "a time as 2026-11-27T08:00:00Z, or ") []))

-- what a type takes, by its number (OPC 10000-6, 5.1.2)
abbrev pub form_text_of : ℕ → List ℕ
form_text_of kind =
    cond (nat_eq kind 1) (codes "true or false") (
    cond (nat_eq kind 2) (codes "-128 to 127") (
    cond (nat_eq kind 3) (codes "0 to 255") (
    cond (nat_eq kind 4) (codes "-32768 to 32767") (
    cond (nat_eq kind 5) (codes "0 to 65535") (
    cond (nat_eq kind 6) (codes "-2147483648 to 2147483647") (
    cond (nat_eq kind 7) (codes "0 to 4294967295") (
    cond (nat_eq kind 8) (codes "-9223372036854775808 to 9223372036854775807") (
    cond (nat_eq kind 9) (codes "0 to 18446744073709551615") (
    cond (nat_eq kind 10) (codes "0x and 8 hexadecimal digits") (
    cond (nat_eq kind 11) (codes "0x and 16 hexadecimal digits") (
    cond (nat_eq kind 13) (codes "ticks of 100 ns since 1601") (
    cond (nat_eq kind 14) (codes "a Guid as 00000001-0002-0003-0405-060708090a0b") (
    cond (nat_eq kind 15) (codes "base64") (
    cond (nat_eq kind 19) (codes "0x and 8 hexadecimal digits") (
    codes "a shorter text")))))))))))))))

-- what is told of a bad value: that its type is none; or what the type takes, of an array of it too
abbrev pub value_told : Bool → List ℕ → List ℕ → Option (ℕ × Bool) → List ℕ
value_told plain kind value None = kind ++ codes " (no such type)"
value_told plain kind value (Some named) =
    value ++ codes " (" ++ kind ++ codes " takes " ++ cond plain (plain_form named.0) [] ++ form_text_of named.0
    ++ cond named.1 (codes ", with commas between)")
    (codes ")")
