-- The input in pieces, each read behind what was left of the one before: what was fed is the input so far. By feed's `pieces`, a piece fed
-- behind what was left is the whole fed at once; less than an event is ever left, by `untaken`. Assumes nothing.
use Prim.Native.Nat.{ℕ, ◌+◌, ◌-◌, ◌≤◌, ◌<◌}
use mathlib.Core.Path.{◌≡◌, refl, sym, ap, ◌∙◌}
use mathlib.Core.List.{List, [], ◌++◌}
use native.Mathlib.Omega.{arith}
use lib.ListN.{length, take, drop, length-append, length-drop}
use lib.Seq.{drop-append-le, drop-drop}
use borrow.Author.Tests.{lt-ltb, le-ltb}
use Rattle.std.specs.Prelude.{Ok, Err, IsOk}
use Rattle.std.specs.declared.result.Result as told
use Rattle.std.specs.declared.io.Error.{Error}
use Rattle.std.specs.declared.ops.ControlFlow.TheVariants.{Continue, Break}
use Rattle.rules.specs.Lists.{over}
use Rattle.rules.specs.Settings.{Histogram, Tables}
use Rattle.rules.specs.Answers.{Result, refused, gives, number_of, result_of}
use Rattle.rules.specs.Order.{Outcome, outcome}
use Rattle.rules.specs.Layout.{Tracker}
use Rattle.rules.specs.Calls.{setup_of}
use Rattle.rules.specs.declared.Record.{Record}
use Rattle.rules.specs.declared.Refusal.{Refusal}
use Rattle.rules.proofs.Bounds.{buckets_long}
use Rattle.rules.proofs.Answers.{number_refused}
use Rattle.rules.proofs.Order.{not_both, says_given}
use Rattle.rules.proofs.Tables.{over_front}
use Rattle.feed.specs.declared.End.{End}
use Rattle.feed.specs.declared.End.TheVariants.{Whole, Inside}
use Rattle.feed.specs.Feed.{Feeding, feed_of}
use Rattle.feed.proofs.Laws.{feed_none}
use Rattle.feed.proofs.Pieces.{Untaken, untaken, taken_within, pieces}
use Rattle.text.specs.Text.{refused_line, curve_text, curve_order, curve_of, longest_curve, longest_refused, curve_in, refused_in}
use Rattle.text.proofs.Curves.{in_filled, in_unfilled}
use Rattle.curve.specs.declared.Stop.TheVariants as stop
use Rattle.curve.specs.declared.Pause.{Pause}
use Rattle.curve.specs.Program.{first_settings, first_tables, or_refused, end_text, last_text, text_from, text_after, text_over}
use Rattle.curve.specs.Program.{Came, some_bytes, no_more, once_more, failure, came_of, Next, Done, Stands, Reached, Follows, Refuses, Ready, Later, AfterRead, OneRead, Prints, Followed}
use Rattle.curve.specs.Program.{Tells, TellsOver, Printing}

-- ---- what feeding ended with

pub a_refusal : (e : told.Result End Refusal) {n : ℕ} → n ≡ number_of (result_of e) → 0 < n → result_of e ≡ refused n
a_refusal e q h = number_refused (result_of e) (rw q at h) ∙ ap refused (sym q)

-- ---- text at the front of the buffer

module _ (before : List ℕ) {after : List ℕ} {n : ℕ} where
  stands : (text : List ℕ) → outcome (gives n) after ≡ outcome (gives (length text)) (over text before) → Stands text after n
  stands text e =
      let given : gives n ≡ gives (length text) = ap (λ z. z.result) e in
      let count : n ≡ length text = cc in
      let is : after ≡ over text before = ap (λ z. z.left) e in
      record {
        is = rw (count, is) (over_front text before);
        fits = rw (count, is) (omega (arith, length-append text (drop (length text) before)));
      }

  module _ (number place : ℕ) where
    pub refused_stands : outcome (gives n) after ≡ refused_in number place before → Stands (refused_line number place) after n
    unfolding refused_in
    refused_stands e = stands (refused_line number place) (in_filled [] longest_refused (refused_line number place) before e).1

    -- a line for a refused event finds room
    pub refusal_fits : longest_refused ≤ length before → outcome (refused n) after ≡ refused_in number place before → ⊥
    unfolding refused_in
    refusal_fits h e = not_both (in_unfilled [] longest_refused (refused_line number place) before n (λ w. h) e).0 refl

  module _ (kept : Record) (g : Histogram) where
    pub curve_stands : (place : ℕ) → outcome (gives n) after ≡ curve_in kept g before → Stands (or_refused (curve_of kept g) place) after n
    unfolding curve_of curve_in
    curve_stands place e =
        let filled = in_filled (curve_order kept g) (longest_curve kept.settings.buckets) (curve_text kept g) before e in
        rw (says_given (curve_order kept g) (curve_text kept g) filled.0) (stands (curve_text kept g) filled.1)

    -- 1,026 counts are those of at most 1,024 buckets, and their longest curve has fewer than 65,536 bytes
    pub curve_refused : length g.counts ≤ 1026 → 65536 ≤ length before → outcome (refused n) after ≡ curve_in kept g before
        → curve_of kept g ≡ refused n
    unfolding curve_of curve_in
    curve_refused few h e = (in_unfilled (curve_order kept g) (longest_curve kept.settings.buckets) (curve_text kept g) before (curve_text kept g)
        (λ w. omega (arith, (buckets_long kept.settings g w.1.0).counts_long)) e).0

-- so that it is put
pub refusal_put : (number place : ℕ) (before : List ℕ) {after : List ℕ} (r : told.Result ℕ Refusal) → longest_refused ≤ length before
    → outcome (result_of r) after ≡ refused_in number place before → IsOk r
refusal_put number place before (Ok n) room e = refl
refusal_put number place before (Err why) room e = absurd (refusal_fits before number place room e)

-- ---- between reads

pub follows_none : (s : Tracker) → Follows s [] 0 s []
follows_none s = record { end = Whole; reached = record { is = feed_none [] s refl; rest_is = refl } }

module _ {first s : Tracker} {input rest : List ℕ} {place : ℕ} {why : Result End} (r : Reached first input place why s rest) where
  pub reached_follows : (end : End) → why ≡ gives end → Follows first input place s rest
  reached_follows end e = record { end = end; reached = rw e at r }

  pub reached_refused : {m : ℕ} → why ≡ refused m → {buffer : List ℕ} {n : ℕ} → Stands (refused_line m place) buffer n
      → Refuses first input × Stands (text_from first input) buffer n
  reached_refused {m} e a = (record { number = m; is = ap (λ z. z.result) r.is ∙ e }, record { is = a.is ∙ rw (r.is, e); fits = a.fits })

module _ {first s : Tracker} {input rest : List ℕ} {place : ℕ} (w : Follows first input place s rest) where
  ended : Untaken (gives w.end) (length input) place
  ended = rw w.reached.is at (untaken input first)

  rest_length : length rest ≡ length input - place
  rest_length = ap length (sym w.reached.rest_is) ∙ length-drop place input

  within : (e : End) → Untaken (gives e) (length input) place → place ≤ length input
  within Whole u = omega arith
  within Inside u = omega arith

  short : (e : End) → Untaken (gives e) (length input) place → length rest < 18
  short Whole u = omega (arith, rest_length)
  short Inside u = omega (arith, rest_length)

  -- less than an event is left
  pub follows_short : length rest < 18
  follows_short = short w.end ended

  at_end : (e : End) → Untaken (gives e) (length input) place
      → end_text (gives e) place s ≡ last_text (length rest) place s.kept s.tables.histogram
  at_end Whole u = rw (le-ltb 0 (length rest) (omega (arith, rest_length)))
  at_end Inside u = rw (lt-ltb 0 (length rest) (omega (arith, rest_length)))

  -- at the end of the input
  pub follows_end : {l : ℕ} → length rest ≡ l → {buffer : List ℕ} {n : ℕ}
      → Stands (last_text l place s.kept s.tables.histogram) buffer n → Stands (text_from first input) buffer n
  follows_end e a = record { is = a.is ∙ rw (← e) (sym (at_end w.end ended) ∙ rw w.reached.is); fits = a.fits }

  -- more of the input
  pub follows_more : (more : List ℕ) (n : ℕ) (why : Result End) (left : Tracker)
      → record { taken = n; result = why; left = left } ≡ feed_of (rest ++ more) s
      → Reached first (input ++ more) (place + n) why left (drop n (rest ++ more))
  follows_more more n why left q = record {
    is = pieces input more first ∙ rw (w.reached.is, w.reached.rest_is, ← q);
    rest_is = sym (drop-drop n place (input ++ more))
        ∙ ap (drop n) (drop-append-le place input more (within w.end ended) ∙ ap (λ l. l ++ more) w.reached.rest_is);
  }

-- no more was taken than was fed
pub taken_most : (bytes : List ℕ) (s : Tracker) {f : Feeding} → f ≡ feed_of bytes s → f.taken ≤ length bytes
taken_most bytes s e = rw e (taken_within bytes s)

-- ---- one read

-- the program goes on after a pause, or has a result
abbrev pub Leads : (first : Tracker) → Pause → told.Result Next Error → (buffer : List ℕ) → Tables → Type 0
Leads first p (Ok (Continue q)) buffer t = Later p q × Followed first q buffer t
Leads first p (Ok (Break n)) buffer t = Tells first (Ok n) buffer t
Leads first p (Err e) buffer t = Tells first (Err (stop.Failed e)) buffer t

-- so it does after a read, by what it came to, for the input with what came
module _ {first : Tracker} {p : Pause} {t : Tables} {buffer : List ℕ} (ready : Ready p) (f : Followed first p buffer t)
    (exit : List ℕ) (after : Tables) where
  longer : ℕ → List ℕ
  longer n = f.input ++ take n (drop p.left buffer)

  leads : (c : Came) (r : told.Result Next Error) → AfterRead p t buffer c r exit after → Leads first p r exit after
  unfolding longer
  leads (some_bytes n) (Ok (Continue q)) a = let o = a first f.input f.paused in (o.0, record { input = longer n; paused = o.1 })
  leads (some_bytes n) (Ok (Break m)) a = record { input = longer n; stands = (a first f.input f.paused).1 }
  leads (some_bytes n) (Err e) a = absurd a
  leads no_more (Ok (Continue q)) a = absurd (a first f.input f.paused)
  leads no_more (Ok (Break m)) a = record { input = f.input; stands = a first f.input f.paused }
  leads no_more (Err e) a = absurd a
  leads once_more r a = rw (a.0, a.1, a.2) (
    record { short = ready.short; further = omega arith; most = omega arith; same = refl },
    record { input = f.input; paused = f.paused },
  )
  leads (failure e) r a = rw (a.0, a.1, a.2) (record { pause = p; followed = f })

-- the same pause, with one more read counted
abbrev pub counted : Pause → Pause
counted p = record { kept = p.kept; left = p.left; place = p.place; reads = p.reads + 1 }

-- the read leaves what was left over, so that the input so far is still followed
pub read_leads : {first : Tracker} {p : Pause} {t after : Tables} {before exit : List ℕ} {r s : told.Result Next Error} → Ready (counted p)
    → Followed first p before t → OneRead (counted p) t before r exit after → r ≡ s → Leads first (counted p) s exit after
read_leads {first} {p} {t} {after} {before} {exit} {r} ready f o e =
    let still : Followed first (counted p) o.buffer t = record { input = f.input; paused = rw o.front f.paused } in
    rw e at (leads ready still exit after (came_of o.got (length o.buffer - p.left)) r o.follows)

-- ---- from the first settings on

module _ (t after : Tables) where
  pub tells_started : (kept : Record) (left : Tables) (r : Done) (buffer : List ℕ)
      → record { result = gives kept; left = left } ≡ setup_of first_settings t
      → Tells (record { kept = kept; tables = left }) r buffer after → TellsOver t r buffer after
  tells_started kept left (Ok n) buffer e h = record {
    input = h.input;
    stands = record {
      is = h.stands.is ∙ ap (λ (z : Outcome Record Tables). text_after z.result z.left h.input) e;
      fits = h.stands.fits;
    };
  }
  tells_started kept left (Err (stop.Failed w)) buffer e h = record { first = record { kept = kept; tables = left }; is = sym e; holds = h }
  tells_started kept left (Err stop.Unending) buffer e h = record { first = record { kept = kept; tables = left }; is = sym e; holds = h }

pub tells_refused : (t after : Tables) (n : ℕ) {buffer : List ℕ} {m : ℕ} → record { result = refused n; left = after } ≡ setup_of first_settings t
    → Stands (refused_line n 0) buffer m → Prints (text_over t) buffer m
tells_refused t after n e a =
    record { input = []; stands = record { is = a.is ∙ ap (λ (z : Outcome Record Tables). text_after z.result z.left []) e; fits = a.fits } }

-- what is told of the program's own tables
pub printing : (d : Done) (buffer : List ℕ) (after : Tables) → TellsOver first_tables d buffer after → Printing d buffer
printing (Ok n) buffer after h = h
printing (Err s) buffer after h = tt
