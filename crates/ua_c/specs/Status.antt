-- The results of calls, as numbers.
use Rattle.std.specs.Prelude.{ℕ}

-- the call did what it is for
abbrev pub ok : ℕ
ok = 0

-- an allocation failed
abbrev pub no_memory : ℕ
no_memory = 1

-- the limits are below the least
abbrev pub bad_limits : ℕ
bad_limits = 2

-- a line of the node file is none
abbrev pub bad_nodes : ℕ
bad_nodes = 3

-- the handle is empty
abbrev pub no_handle : ℕ
no_handle = 4

-- the connection ended, or failed, before
abbrev pub closed : ℕ
closed = 5

-- the connection was rejected
abbrev pub refused : ℕ
refused = 6

-- the peer closed the connection
abbrev pub ended : ℕ
ended = 7

-- bytes wait to be fetched
abbrev pub fetch_first : ℕ
fetch_first = 8

-- a text is none of those that the call takes
abbrev pub bad_text : ℕ
bad_text = 9

-- the handle is of another kind
abbrev pub other_handle : ℕ
other_handle = 10

-- the channel of a client is not open
abbrev pub not_open : ℕ
not_open = 11

-- 64 calls are unanswered
abbrev pub too_many_pending : ℕ
too_many_pending = 12

-- a renewal is unanswered
abbrev pub renew_pending : ℕ
renew_pending = 13

-- 16 tokens are held
abbrev pub too_many_tokens : ℕ
too_many_tokens = 14

-- all RequestIds were used
abbrev pub exhausted : ℕ
exhausted = 15

-- the server takes no message of this many bytes or chunks
abbrev pub too_large : ℕ
too_large = 16

-- the body of a call is empty
abbrev pub empty : ℕ
empty = 17

-- the buffer is too small
abbrev pub too_small : ℕ
too_small = 18

-- there is no such side
abbrev pub bad_side : ℕ
bad_side = 19

-- the bytes are not what the call takes
abbrev pub bad_octets : ℕ
bad_octets = 20

-- the service failed
abbrev pub service : ℕ
service = 21

-- the response is that of another request
abbrev pub unknown : ℕ
unknown = 22

-- the node takes no value of this type
abbrev pub mismatch : ℕ
mismatch = 23

-- a reading has no value within the bytes, or no source timestamp
abbrev pub bad_reading : ℕ
bad_reading = 24

-- there is nothing more
abbrev pub no_more : ℕ
no_more = 25

-- no endpoint has a token policy that fits
abbrev pub no_policy : ℕ
no_policy = 26

-- the value has no text that denotes it
abbrev pub no_text : ℕ
no_text = 27

-- ---- which of several texts is none

-- the node file, or the lines of a request
abbrev pub text_nodes : ℕ
text_nodes = 1

-- the URL
abbrev pub text_url : ℕ
text_url = 2

-- the ApplicationUri
abbrev pub text_application_uri : ℕ
text_application_uri = 3

-- the application's name
abbrev pub text_name : ℕ
text_name = 4

-- the token
abbrev pub text_token : ℕ
text_token = 5

-- the PolicyId
abbrev pub text_policy : ℕ
text_policy = 6

-- a node, of several the one at the index that is told
abbrev pub text_node : ℕ
text_node = 7

-- the index range
abbrev pub text_range : ℕ
text_range = 8

-- the type
abbrev pub text_type : ℕ
text_type = 9

-- the value
abbrev pub text_value : ℕ
text_value = 10
