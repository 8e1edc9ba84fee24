-- Each promise decides what is answered: any two that it allows coincide. Assumes nothing.
use Prim.Native.Nat.{ℕ}
use mathlib.Core.Path.{◌≡◌, sym, ◌∙◌}
use mathlib.Core.List.{List}
use Rattle.rules.specs.declared.Settings.{Settings}
use Rattle.rules.specs.declared.Numbers.{Numbers}
use Rattle.rules.specs.declared.Record.{Record}
use Rattle.rules.specs.declared.Shape.{Shape}
use Rattle.rules.specs.Settings.{out_of_range}
use Rattle.rules.specs.Events.{overrun}
use Rattle.rules.specs.Layout.{buckets_of, tables_of}
use Rattle.rules.specs.Conditions.{buckets_too_short, too_short, torn_record, full, stale}

abbrev Once : {A : Type 0} → A → Type 0
Once {A} is = (r r' : A) → r ≡ is → r' ≡ is → r ≡ r'

once : {A : Type 0} (is : A) → Once is
once is r r' p q = p ∙ sym q

pub out_of_range_once : (s : Settings) → Once (out_of_range s)
out_of_range_once s = once _

pub torn_once : (kept : Record) → Once (torn_record kept)
torn_once kept = once _

pub buckets_too_short_once : (s : Settings) (counts thresholds : List ℕ) → Once (buckets_too_short s (buckets_of counts thresholds))
buckets_too_short_once s counts thresholds = once _

pub too_short_once : (s : Settings) (locations counts thresholds : List ℕ) → Once (too_short s (tables_of locations counts thresholds))
too_short_once s locations counts thresholds = once _

pub is_full_once : (n : Numbers) → Once (full n)
is_full_once n = once _

pub overruns_once : (offset bytes : ℕ) → Once (overrun offset bytes)
overruns_once offset bytes = once _

pub is_stale_once : (believed : Shape) (s : Settings) → Once (stale believed s)
is_stale_once believed s = once _
