-- What a request in a queue may ask.
use Rattle.std.specs.Prelude.{◌≢◌, pos}
use Rattle.request_queue.specs.declared.asked.Asked.{Asked}
use Rattle.request_queue.specs.declared.asked.Asked.TheVariants.{Refused}

-- the code of a refusal is not 0, which is that of a reply without an error
abbrev pub IsAsked : Asked → Type 0
IsAsked (Refused code) = code ≢ pos 0
IsAsked other = Unit {0}
