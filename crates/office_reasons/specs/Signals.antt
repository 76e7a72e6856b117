-- What is reported of the signals of a live message.
use Rattle.std.specs.Prelude.{ℕ, Bool, List, [], ◌∷◌, ◌++◌, map, codes, decimal}
use Rattle.std.specs.Str.{bytes_eq}
use Rattle.bitlayout.specs.declared.place.Mux.{Mux}
use Rattle.dbc_sheet.specs.Signal.{place_of}
use Rattle.dbc_sheet.specs.declared.message.Message.{Message}
use Rattle.dbc_sheet.specs.declared.signal.Signal.{Signal}
use Rattle.dbc_words.specs.Limits.{value_text_limit}
use Rattle.office_reasons.specs.Few.{few_text}
use Rattle.office_reasons.specs.Pieces.{shown}
use Rattle.office_reasons.specs.Places.{mark_text, signal_text}

abbrev pub has_name_of : List ℕ → Signal → Bool
has_name_of name s = bytes_eq s.name name

-- which signals there are
abbrev pub signals_text : List Signal → List ℕ
signals_text [] = codes "it has no signals"
signals_text (signal ∷ signals) =
    codes "its signals: " ++ few_text (map (λ (s : Signal). shown s.name) (signal ∷ signals))

abbrev pub no_signal_text : Message → List ℕ → List ℕ
no_signal_text m name = shown m.name ++ (codes " has no signal " ++ (shown name ++ (codes "; " ++ signals_text m.signals)))

abbrev pub signal_there_text : Message → Signal → List ℕ
signal_there_text m s = shown m.name ++ (codes " has a signal "
    ++ (signal_text s.name (place_of s) s.signed ++ codes " already"))

abbrev pub second_text : Message → Signal → List ℕ
second_text m s = shown m.name ++ (codes " has a multiplexor already, " ++ signal_text s.name (place_of s) s.signed)

abbrev pub unmultiplexed_text : Message → List ℕ → Mux → List ℕ
unmultiplexed_text m name mux = shown name ++ (codes " is" ++ (mark_text mux ++ (codes ", and " ++ (shown m.name
    ++ codes " has no multiplexor: take one with mux=M first"))))

abbrev pub many_texts_text : ℕ → List ℕ
many_texts_text count =
    decimal count ++ (codes " texts are given, and a signal has at most " ++ decimal value_text_limit)
