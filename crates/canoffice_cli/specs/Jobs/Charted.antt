-- The outcome of the words of a chart.
use Rattle.std.specs.Prelude.{◌≡◌, ◌⊎◌, ℕ, List, [], map, take, Some, None, is_none, if◌then◌else◌, slice_get}
use Rattle.office_views.specs.declared.signal.ChartSignal.{ChartSignal}
use Rattle.office_views.specs.Text.{chart_of, clash_of}
use Rattle.office_views.specs.Word.{signal_of}
use Rattle.canoffice_cli.specs.Outcome.{Outcome, wrong_word}
use Rattle.canoffice_cli.specs.declared.report.ExitStatus.TheVariants.{Success, FaultFound}

-- the chart is printed, and the status depends on whether the signals are clear
abbrev pub chart_outcome : ℕ → List ChartSignal → Outcome
chart_outcome bytes signals =
    record {
      output = chart_of bytes signals;
      errors = [];
      status =
          if is_none (clash_of bytes signals) then Success else FaultFound;
    }

-- each word describes its signal
abbrev pub AreSignals : List (List ℕ) → List ChartSignal → Type 0
AreSignals words signals = map signal_of words ≡ map Some signals

-- the word is malformed, and those before it aren't
abbrev pub IsFirstWrongWord : List (List ℕ) → List ℕ → Type 0
IsFirstWrongWord words word =
    (k : ℕ) × (signals : List ChartSignal) × (slice_get words k ≡ Some word) × (signal_of word ≡ None)
    × AreSignals (take k words) signals

-- the signals were charted, or the first malformed word is printed
abbrev pub IsChartOutcome : ℕ → List (List ℕ) → Outcome → Type 0
IsChartOutcome bytes words o =
    ((signals : List ChartSignal) × AreSignals words signals × (o ≡ chart_outcome bytes signals))
    ⊎ ((word : List ℕ) × IsFirstWrongWord words word × (o ≡ wrong_word word))
