-- What a text that is divided into statements reads as.
use Rattle.dbc_read.proofs.Common.{◌≡◌, ◌∙◌, ℕ, List, Option, None, Some, Result, map, ap, refl, sym, subst, IfSome}
use Rattle.dbc_read.proofs.Common.{IfSome_then, Keyword, lexed, statements_at, Says, passed_by, Token}
use Rattle.dbc_read.proofs.Common.{tokens_without_fault, Sheet, ReadFault, IsDivided, no_tokens}
use Rattle.std.proofs.Common.{Ok}
use Rattle.std.specs.Prelude.{IfOk}
use Rattle.std.proofs.lemmas.Result.{IfOk-at_ok}
use Rattle.dbc_grammar.specs.Division.{Divides}
use Rattle.dbc_grammar.specs.Lexing.{Lexed}
use Rattle.dbc_grammar.specs.Reads.{ReadsAs, ReadsAsOneAtMost, ReadsOnlyAs}
use Rattle.dbc_grammar.specs.Statement.{Statement}
use Rattle.dbc_grammar.proofs.Divisions.{one_division, reading_is_exact}
use Rattle.dbc_grammar.proofs.OneReading.{reads_only}
use Rattle.dbc_grammar.proofs.TokenExact.{exact}
use Rattle.dbc_grammar.proofs.TokensOnce.{tokens_once}
use Rattle.dbc_statements.specs.Division.{HasNoDivision}
use Rattle.dbc_statements.specs.Tokens.{EndsWith}
use Rattle.dbc_statements.proofs.WholeText.{whole}
use Rattle.dbc_read.specs.Built.{CanBeSheet, IsBuilt}
use Rattle.dbc_read.specs.Faults.{IsFault}
use Rattle.dbc_read.specs.Gathered.{AreGathered}
use Rattle.dbc_read.specs.Passed.{start_and_keyword}
use Rattle.dbc_read.specs.Reading.{ReadsAsNothing}
use Rattle.dbc_read.specs.Sheets.{SaysNothing}
use Rattle.dbc_read.specs.declared.gathered.Gathered.{Gathered}
use Rattle.dbc_read.specs.declared.reading.Reading.{Reading}
use Rattle.dbc_read.specs.declared.refusal.Refusal.{Refusal}
use Rattle.dbc_read.proofs.FaultsRefuse.{refused_fault}
use Rattle.dbc_read.proofs.SheetsStated.{says_built, says_nothing}

pub no_tokens_left : (bytes source : List ℕ) (fault : ReadFault) → source ≡ bytes → EndsWith (lexed 0 source) fault
    → HasNoDivision bytes
no_tokens_left bytes source fault same ends =
    no_tokens bytes fault (subst (λ (x : List ℕ). EndsWith (lexed 0 x) fault) same ends)

module _ (bytes : List ℕ) where
  pub undivided : HasNoDivision bytes → ReadsAsNothing bytes
  undivided none s (passed, r) =
      none r.statements (record { tokens = r.tokens; has_tokens = r.has_tokens; divides = r.divides })

  -- the tokens of a reader of this text, if it has no fault of tokens
  pub all_tokens : (source : List ℕ) (tokens : List Token) → tokens ≡ (lexed 0 bytes).tokens → source ≡ bytes
      → (lexed 0 source).fault ≡ None → lexed 0 bytes ≡ tokens_without_fault tokens
  all_tokens source tokens are same none =
      whole bytes tokens are (subst (λ (x : List ℕ). (lexed 0 x).fault ≡ None) same none)

  -- what the text is divided into is what its tokens are read as
  pub stated_at : (tokens : List Token) → lexed 0 bytes ≡ tokens_without_fault tokens → (ss : List Statement)
      → IsDivided bytes ss → statements_at tokens ≡ Some ss
  stated_at tokens read ss d =
      let same : d.tokens ≡ tokens =
      ap (λ (l : Lexed). l.tokens) (sym ((exact 0 bytes d.tokens).0 d.has_tokens) ∙ read) in
      ap statements_at (sym same) ∙ (reading_is_exact d.tokens ss).0 d.divides

  module _ (ss : List Statement) (d : IsDivided bytes ss) where
    reads_as : (s : Sheet) (passed : List (ℕ × Keyword)) → Says ss s → passed ≡ passed_by ss → ReadsAs bytes s passed
    reads_as s passed says is = record {
      tokens = d.tokens;
      statements = ss;
      has_tokens = d.has_tokens;
      divides = d.divides;
      says = says;
      passes = is;
    }

    reads_one : ReadsAsOneAtMost → (s : Sheet) → Says ss s → ReadsOnlyAs bytes s
    reads_one one s says = reads_only one bytes s (passed_by ss, reads_as s (passed_by ss) says refl)

    -- the text has no other statements
    same_statements : (us : List Statement) → IsDivided bytes us → us ≡ ss
    same_statements us e =
        let tokens = tokens_once 0 bytes e.tokens d.tokens e.has_tokens d.has_tokens in
        one_division d.tokens us ss (subst (λ (ts : List Token). Divides ts us) tokens e.divides) d.divides

    unstated : SaysNothing ss → ReadsAsNothing bytes
    unstated none s (passed, r) =
        let same = same_statements r.statements
        (record { tokens = r.tokens; has_tokens = r.has_tokens; divides = r.divides }) in
        none s (subst (λ (us : List Statement). Says us s) same r.says)

    module _ (g : Gathered) (a : AreGathered ss g) where
      -- where what is gathered can't be in one sheet, the text reads as none
      pub reads_none : ¬ CanBeSheet g → ReadsAsNothing bytes
      reads_none never = unstated (says_nothing ss g a never)

      -- so it does where that has a fault
      pub reads_none_at : (fault : ReadFault) → IsFault g fault → ReadsAsNothing bytes
      reads_none_at fault is = reads_none (refused_fault ss g a fault is)

      -- the sheet that is built of what is gathered
      pub reads_built : (r : Reading) → IsBuilt g r.sheet → r.passed ≡ g.passed
          → ReadsAs bytes r.sheet (map start_and_keyword r.passed)
      reads_built r built same =
          reads_as r.sheet _ (says_built ss g a r.sheet built) (ap (map start_and_keyword) same ∙ a.passed)

      pub reads_only_built : ReadsAsOneAtMost → (r : Reading) → IsBuilt g r.sheet → ReadsOnlyAs bytes r.sheet
      reads_only_built one r built = reads_one one r.sheet (says_built ss g a r.sheet built)

      -- Where the reading is what was built, if anything was.
      module _ (built : Result Reading Refusal) (found : Option Reading) where
        pub found_reads : IfOk built (λ r. IsBuilt g r.sheet) → IfOk built (λ r. r.passed ≡ g.passed)
            → IfSome found (λ r. built ≡ Ok r)
            → IfSome found (λ r. ReadsAs bytes r.sheet (map start_and_keyword r.passed))
        found_reads is passed some =
            IfSome_then found some (λ r e. reads_built r (IfOk-at_ok (λ (x : Reading). IsBuilt g x.sheet) e is)
            (IfOk-at_ok (λ (x : Reading). x.passed ≡ g.passed) e passed))

        pub found_only : ReadsAsOneAtMost → IfOk built (λ r. IsBuilt g r.sheet) → IfSome found (λ r. built ≡ Ok r)
            → IfSome found (λ r. ReadsOnlyAs bytes r.sheet)
        found_only one is some =
            IfSome_then found some (λ r e. reads_only_built one r
            (IfOk-at_ok (λ (x : Reading). IsBuilt g x.sheet) e is))
