-- What is printed is of a run. The first setup is accepted, by computation, and feeding goes on with the run that it begins, whose curve is
-- never refused. Where the bytes end after a whole event, nothing is behind those taken, and so no references of a refused event are. Assumes
-- nothing.
use Prim.Native.Nat.{ℕ}
use mathlib.Core.Path.{◌≡◌, refl, ap, ◌∙◌}
use mathlib.Core.Bool.{false}
use mathlib.Core.List.{List, [], ◌∷◌, ◌++◌}
use native.Mathlib.Omega.{arith}
use lib.ListN.{length, drop, length-drop}
use Rattle.rules.specs.Settings.{with_defaults, out_of_range}
use Rattle.rules.specs.Answers.{gives}
use Rattle.rules.specs.Conditions.{too_short}
use Rattle.rules.specs.Calls.{setup_of}
use Rattle.rules.proofs.Events.{read_empty}
use Rattle.rules.proofs.Calls.{setup_accept}
use Rattle.demands.specs.Runs.{setup, onto}
use Rattle.feed.specs.declared.End.TheVariants.{Whole}
use Rattle.feed.specs.Feed.{feed_of}
use Rattle.feed.specs.Past.{references_next, Ran, past_of}
use Rattle.feed.proofs.Pieces.{Untaken, untaken}
use Rattle.feed.proofs.Runs.{ran}
use Rattle.text.proofs.OfRun.{of_run}
use Rattle.curve.specs.Program.{first_settings, first_tables, or_refused, end_text, text_after}
use Rattle.curve.specs.Printed.{start, Printed}

in_range : out_of_range (with_defaults first_settings) ≡ false
unfolding out_of_range with_defaults
in_range = refl

long : too_short (with_defaults first_settings) first_tables ≡ false
unfolding with_defaults
long = refl

-- the program begins with an accepted setup
begins : setup_of first_settings first_tables ≡ record { result = gives start.kept; left = start.tables }
unfolding start
begins = setup_accept first_settings first_tables in_range long

-- a first part of nothing is nothing
no_front : (made rest : List ℕ) → made ++ rest ≡ [] → made ≡ []
no_front [] rest e = refl
no_front (x ∷ made) rest e = absurd (omega (arith, ap length e))

-- where the input ends after a whole event, no event was refused
none_made : (input : List ℕ) (r : Ran input start (feed_of input start)) → (feed_of input start).result ≡ gives Whole → r.made ≡ []
none_made input r e =
    let all : Untaken (gives Whole) (length input) (feed_of input start).taken = rw e at (untaken input start) in
    no_front r.made r.rest
    (r.first_part ∙ ap references_next (read_empty (drop (feed_of input start).taken input) (rw length-drop (omega (arith, all)))))

pub printed : (input : List ℕ) → Printed input
printed input =
    let r = ran input start in
    let run = r.continued [] (setup first_settings first_tables begins) in
    let says = of_run (onto r.made (past_of r.events [])) (feed_of input start).left run in
    record {
      ran = r;
      run = run;
      none_refused = none_made input r;
      text = λ e. ap (λ b. text_after b.result b.left input) begins
          ∙ ap (λ z. end_text z (feed_of input start).taken (feed_of input start).left) e
          ∙ ap (λ z. or_refused z (feed_of input start).taken) says.given;
      lines = says;
    }
