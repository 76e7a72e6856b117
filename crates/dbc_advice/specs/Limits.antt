-- How much is reported of one file.
use Rattle.std.specs.Prelude.{ℕ}

-- the greatest number of its faults
abbrev pub faults_reported : ℕ
faults_reported = 100

-- the greatest number of reasons why its messages aren't clear
abbrev pub clashes_reported : ℕ
clashes_reported = 100

-- above how many reasons no further signal of a message is looked at
abbrev pub reasons_reported : ℕ
reasons_reported = 100

-- the greatest number of its statements that cite what isn't in it
abbrev pub citations_reported : ℕ
citations_reported = 100

-- how many bytes are read again at most, to find further faults
abbrev pub bytes_read_again : ℕ
bytes_read_again = 400000000
