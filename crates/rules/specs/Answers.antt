-- What a call answers, with the number that the documents give each refusal. The promises read answers through these. Assumes nothing.
use Rattle.std.specs.Prelude.{ℕ, Ok, Err}
use Rattle.std.specs.declared.result.Result as told
use Rattle.rules.specs.declared.Refusal.{Refusal}
use Rattle.rules.specs.declared.Refusal.TheVariants as refusal

-- what a call answers: a refusal, by its number, or what the call is for
pub data Result (A : Type 0) : Type 0 where
  refused : ℕ → Result A
  gives : A → Result A

abbrev pub number : Refusal → ℕ
number refusal.Settings = 1
number refusal.Tables = 2
number refusal.Torn = 3
number refusal.Full = 4
number refusal.Stale = 5
number refusal.Point = 6
number refusal.Short = 7
number refusal.Kind = 8
number refusal.Empty = 9
number refusal.Overrun = 10

-- 0 where a call is accepted, or the refusal's number
abbrev pub number_of : {A : Type 0} → Result A → ℕ
number_of (refused n) = n
number_of (gives a) = 0

-- what the code returns, so read
abbrev pub result_of : {A : Type 0} → told.Result A Refusal → Result A
result_of (Ok a) = gives a
result_of (Err why) = refused (number why)
