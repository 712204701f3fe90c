-- `summed::is_sound` meets its contract. Assumes nothing.
use Rattle.std.proofs.Common.{◌≡◌, true, ◌&&◌, ltb, drop, sym, ap, ◌∙◌, ap₂, arith, length-take-le, le-ltb, lt-ltb}
use Rattle.summed.specs.Totals.{run_sound}
use Rattle.summed.specs.Call.{sound}
use Rattle.summed.proofs.Laws.{from_on}
use Rattle.summed.proofs.is_sound.Goals as goal

pub returns-then-n-ge-COMPONENTS : goal.returns-then-n-ge-COMPONENTS
unfolding sound
returns-then-n-ge-COMPONENTS c = simp (le-ltb c.args.state.next 8 (omega arith))

pub slice_bounds-run_sound-end : goal.slice_bounds-run_sound-end
slice_bounds-run_sound-end c = sym (length-take-le 1024 c.args.totals.now (omega arith))

pub run_sound-requires : goal.run_sound-requires
run_sound-requires c = record {
  n_bound = omega arith;
  run_len = length-take-le 1024 c.args.totals.now (omega arith);
}

pub returns : goal.returns
unfolding sound
returns c =
    let a = c.args in
    let place : ltb a.state.next 8 ≡ true = lt-ltb a.state.next 8 (omega arith) in
    let second : c.run_sound-2.result ≡ run_sound a.state.second a.state.next (drop 1024 a.totals.now) =
    c.run_sound-2.ensures ∙ ap (run_sound a.state.second a.state.next) (from_on 1024 a.totals.now) in
    simp place (ap₂ ◌&&◌ c.run_sound.ensures second)
