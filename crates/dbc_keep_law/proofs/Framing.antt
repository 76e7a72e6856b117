-- A statement that can be passed over is read the same wherever its words stand, if the end or a keyword other than
-- `SG_` follows it.
use Rattle.dbc_keep_law.proofs.Common.{◌≡◌, ℕ, Bool, true, not, List, [], ◌∷◌, ◌++◌, Option, Some, None, codes, refl}
use Rattle.dbc_keep_law.proofs.Common.{sym, ap, subst, ◌∙◌, append_assoc, Keyword, Nodes, Message, Signal}
use Rattle.dbc_keep_law.proofs.Common.{EnvironmentVariable, is_mark, is_key, key_of, mark, text_of, cited_name}
use Rattle.dbc_keep_law.proofs.Common.{cited_number, sign_of, type_of, begins_next, next, is_open, is_spn_name, spn_of}
use Rattle.dbc_keep_law.proofs.Common.{Rule, token, one, only, ◌>>=◌, done, optional, many, Content, PassedOver, Token}
use Rattle.dbc_keep_law.proofs.Common.{TokenKind, Any, Next}
use Rattle.dbc_grammar.specs.Fields.{key, number_of, independent_number, decimal, entry}
use Rattle.dbc_grammar.specs.Grammar.{node_comment, message_comment, signal_comment, value_texts_line, value_type_line}
use Rattle.dbc_grammar.specs.Grammar.{spn_line, skipped, passed_comment, passed_value_texts, independent_line}
use Rattle.dbc_grammar.specs.Rules.{followed}

-- ---- tokens of the same words

abbrev pub Alike : List Token → List Token → Type 0
Alike [] [] = Unit {0}
Alike [] (u ∷ us) = ⊥
Alike (t ∷ ts) [] = ⊥
Alike (t ∷ ts) (u ∷ us) = (t.kind ≡ u.kind) × (t.text ≡ u.text) × Alike ts us

pub record Split (xs ys zs : List Token) : Type 0 where
  pub first : List Token
  pub second : List Token
  pub parts : zs ≡ first ++ second
  pub first_alike : Alike xs first
  pub second_alike : Alike ys second

split : (xs ys zs : List Token) → Alike (xs ++ ys) zs → Split xs ys zs
split [] ys zs h = record { first = []; second = zs; parts = refl; first_alike = tt; second_alike = h }
split (x ∷ xs) ys [] h = absurd h
split (x ∷ xs) ys (z ∷ zs) h =
    let others = split xs ys zs h.2 in
    record {
      first = z ∷ others.first;
      second = others.second;
      parts = ap (λ (l : List Token). z ∷ l) others.parts;
      first_alike = (h.0, h.1, others.first_alike);
      second_alike = others.second_alike;
    }

pub alike_back : (xs ys : List Token) → Alike xs ys → Alike ys xs
alike_back [] [] h = tt
alike_back [] (y ∷ ys) h = h
alike_back (x ∷ xs) [] h = h
alike_back (x ∷ xs) (y ∷ ys) h = (sym h.0, sym h.1, alike_back xs ys h.2)

-- ---- rules that read the same of the same words

-- what the rule reads is a run, and it reads the same of every run of the same words, if F holds of what follows
pub record Frame {A : Type 0} (F : List Token → Type 0) (rule : Rule A) (ts : List Token) (x : A)
    (rest : List Token) : Type 0 where
  pub run : List Token
  pub parts : ts ≡ run ++ rest
  pub moves : (moved others : List Token) → Alike run moved → F others → rule (moved ++ others) x others

pub record Framed {A : Type 0} (F : List Token → Type 0) (rule : Rule A) : Type 0 where
  pub each : (ts : List Token) (x : A) (rest : List Token) → rule ts x rest → Frame F rule ts x rest

pub frame_any : {A : Type 0} {F : List Token → Type 0} {rule : Rule A} {ts : List Token} {x : A} {rest : List Token}
    → Frame Any rule ts x rest → Frame F rule ts x rest
frame_any f = record { run = f.run; parts = f.parts; moves = λ moved others alike _. f.moves moved others alike tt }

pub frame_map : {A : Type 0} {F : List Token → Type 0} {rule other : Rule A} {ts : List Token} {x : A}
    {rest : List Token}
    → ((us : List Token) (y : A) (more : List Token) → rule us y more → other us y more) → Frame F rule ts x rest
    → Frame F other ts x rest
frame_map {x} f h =
    record {
      run = h.run;
      parts = h.parts;
      moves = λ moved others alike g. f (moved ++ others) x others (h.moves moved others alike g);
    }

-- the meaning of a token is that of its word
abbrev Blind : {A : Type 0} → (Token → A) → Type 0
Blind says = (t u : Token) → t.kind ≡ u.kind → t.text ≡ u.text → says t ≡ says u

token_moves : {A : Type 0} (says : Token → Option A) → Blind says → (t : Token) (x : A) → says t ≡ Some x
    → (moved others : List Token) → Alike (t ∷ []) moved
    → token says (moved ++ others) x others
token_moves says blind t x e [] others alike = absurd alike
token_moves says blind t x e (u ∷ []) others alike =
    record { first = u; front = refl; value = sym (blind t u alike.0 alike.1) ∙ e }
token_moves says blind t x e (u ∷ v ∷ moved) others alike = absurd alike.2

framed_token : {A : Type 0} (says : Token → Option A) → Blind says → Framed Any (token says)
framed_token says blind = record {
  each = λ ts x rest h.
      record {
        run = h.first ∷ [];
        parts = h.front;
        moves = λ moved others alike _. token_moves says blind h.first x h.value moved others alike;
      };
}

framed_one : (test : Token → Bool) → Blind test → Framed Any (one test)
framed_one test blind = framed_token (λ t. only (test t) tt) (λ t u k w. ap (λ b. only b tt) (blind t u k w))

framed_then : {A B : Type 0} {F : List Token → Type 0} {r : Rule A} {q : A → Rule B} → Framed Any r
    → ((x : A) → Framed F (q x)) → Framed F (r >>= q)
framed_then {r} {q} first second = record {
  each = λ ts y rest h.
      let a = first.each ts h.value h.middle h.begins in
      let b = (second h.value).each h.middle y rest h.goes_on in
      record {
        run = a.run ++ b.run;
        parts = a.parts ∙ ap (λ (l : List Token). a.run ++ l) b.parts ∙ sym (append_assoc a.run b.run rest);
        moves = λ moved others alike f.
            let s = split a.run b.run moved alike in
            let e : s.first ++ (s.second ++ others) ≡ moved ++ others =
            sym (append_assoc s.first s.second others) ∙ ap (λ (l : List Token). l ++ others) (sym s.parts) in
            subst (λ (l : List Token). (r >>= q) l y others) e (record {
              value = h.value;
              middle = s.second ++ others;
              begins = a.moves s.first (s.second ++ others) s.first_alike tt;
              goes_on = b.moves s.second others s.second_alike f;
            });
      };
}

done_moves : {A : Type 0} (x y : A) → y ≡ x → (moved others : List Token) → Alike [] moved
    → done x (moved ++ others) y others
done_moves x y e [] others alike = record { value = e; all = refl }
done_moves x y e (u ∷ moved) others alike = absurd alike

framed_done : {A : Type 0} (x : A) → Framed Any (done x)
framed_done x =
    record {
      each = λ ts y rest h.
          record { run = []; parts = sym h.all; moves = λ moved others alike _. done_moves x y h.value moved others alike };
    }

followed_moves : (test : List Token → Bool) (x : Unit {0}) (moved others : List Token) → Alike [] moved
    → test others ≡ true → followed test (moved ++ others) x others
followed_moves test x [] others alike h = record { passes = h; all = refl }
followed_moves test x (u ∷ moved) others alike h = absurd alike

none_moves : {A : Type 0} (r : Rule A) (moved others : List Token) → Alike [] moved
    → optional r (moved ++ others) None others
none_moves r [] others alike = refl
none_moves r (u ∷ moved) others alike = absurd alike

optional_each : {A : Type 0} (r : Rule A) → Framed Any r → (ts : List Token) (x : Option A) (rest : List Token)
    → optional r ts x rest → Frame Any (optional r) ts x rest
optional_each r f ts None rest h =
    record { run = []; parts = sym h; moves = λ moved others alike _. none_moves r moved others alike }
optional_each r f ts (Some x) rest h = let a = f.each ts x rest h in
    record { run = a.run; parts = a.parts; moves = a.moves }

framed_optional : {A : Type 0} {r : Rule A} → Framed Any r → Framed Any (optional r)
framed_optional {r} f = record { each = optional_each r f }

nil_moves : {A : Type 0} (r : Rule A) (moved others : List Token) → Alike [] moved → many r (moved ++ others) [] others
nil_moves r [] others alike = refl
nil_moves r (u ∷ moved) others alike = absurd alike

many_each : {A : Type 0} (r : Rule A) → Framed Any r → (ts : List Token) (xs : List A) (rest : List Token)
    → many r ts xs rest → Frame Any (many r) ts xs rest
many_each r f ts [] rest h =
    record { run = []; parts = sym h; moves = λ moved others alike _. nil_moves r moved others alike }
many_each r f ts (x ∷ xs) rest (middle, here, more) =
    let a = f.each ts x middle here in
    let b = many_each r f middle xs rest more in
    record {
      run = a.run ++ b.run;
      parts = a.parts ∙ ap (λ (l : List Token). a.run ++ l) b.parts ∙ sym (append_assoc a.run b.run rest);
      moves = λ moved others alike _.
          let s = split a.run b.run moved alike in
          let e : s.first ++ (s.second ++ others) ≡ moved ++ others =
          sym (append_assoc s.first s.second others) ∙ ap (λ (l : List Token). l ++ others) (sym s.parts) in
          subst (λ (l : List Token). many r l (x ∷ xs) others) e (
            s.second ++ others,
            a.moves s.first (s.second ++ others) s.first_alike tt,
            b.moves s.second others s.second_alike tt,
          );
    }

framed_many : {A : Type 0} {r : Rule A} → Framed Any r → Framed Any (many r)
framed_many {r} f = record { each = many_each r f }

-- ---- the words of these statements

abbrev of_word : Token → TokenKind → List ℕ → Token
of_word t kind text = record { kind = kind; start = t.start; end = t.end; text = text }

blind_mark : (spelling : List ℕ) → Blind (is_mark spelling)
blind_mark spelling t u k w = λ i. is_mark spelling (of_word t (k i) (w i))

blind_open : Blind is_open
blind_open t u k w = λ i. is_open (of_word t (k i) (w i))

blind_key : (k : Keyword) → Blind (is_key k)
blind_key key t u k w = λ i. is_key key (of_word t (k i) (w i))

pub blind_key_of : Blind key_of
blind_key_of t u k w = λ i. key_of (of_word t (k i) (w i))

blind_text : Blind text_of
blind_text t u k w = λ i. text_of (of_word t (k i) (w i))

blind_name : Blind cited_name
blind_name t u k w = λ i. cited_name (of_word t (k i) (w i))

blind_number : Blind cited_number
blind_number t u k w = λ i. cited_number (of_word t (k i) (w i))

blind_sign : Blind sign_of
blind_sign t u k w = λ i. sign_of (of_word t (k i) (w i))

blind_value : (negative : Bool) → Blind (number_of negative)
blind_value negative t u k w = λ i. number_of negative (of_word t (k i) (w i))

blind_type : Blind type_of
blind_type t u k w = λ i. type_of (of_word t (k i) (w i))

blind_spn_name : Blind is_spn_name
blind_spn_name t u k w = λ i. is_spn_name (of_word t (k i) (w i))

blind_spn : Blind spn_of
blind_spn t u k w = λ i. spn_of (of_word t (k i) (w i))

blind_independent : Blind independent_number
blind_independent t u k w = λ i. independent_number (of_word t (k i) (w i))

blind_other : Blind (λ t. not (begins_next t))
blind_other t u k w = λ i. not (begins_next (of_word t (k i) (w i)))

-- ---- fields and statements

framed_end : (c : Content) → Framed Any (mark (codes ";") >>= λ end. done c)
framed_end c = framed_then (framed_one (is_mark (codes ";")) (blind_mark (codes ";"))) (λ end. framed_done c)

framed_decimal : Framed Any decimal
unfolding decimal
framed_decimal = framed_then (framed_optional (framed_token sign_of blind_sign))
    (λ minus. framed_then (framed_token _ (blind_value _)) (λ n. framed_done n))

framed_entry : Framed Any entry
unfolding entry
framed_entry = framed_then framed_decimal
    (λ value. framed_then (framed_token text_of blind_text) (λ text. framed_done _))

pub framed_skipped : Framed Any skipped
unfolding skipped
framed_skipped = framed_then (framed_many (framed_one is_open blind_open)) (λ others. framed_end PassedOver)

pub framed_node_comment : Framed Any node_comment
unfolding node_comment
framed_node_comment =
    framed_then (framed_one (is_key Nodes) (blind_key Nodes)) (λ word.
    framed_then (framed_token cited_name blind_name) (λ node.
    framed_then (framed_token text_of blind_text) (λ text.
    framed_end _)))

pub framed_message_comment : Framed Any message_comment
unfolding message_comment
framed_message_comment =
    framed_then (framed_one (is_key Message) (blind_key Message)) (λ word.
    framed_then (framed_token cited_number blind_number) (λ number.
    framed_then (framed_token text_of blind_text) (λ text.
    framed_end _)))

pub framed_signal_comment : Framed Any signal_comment
unfolding signal_comment
framed_signal_comment =
    framed_then (framed_one (is_key Signal) (blind_key Signal)) (λ word.
    framed_then (framed_token cited_number blind_number) (λ number.
    framed_then (framed_token cited_name blind_name) (λ name.
    framed_then (framed_token text_of blind_text) (λ text.
    framed_end _))))

pub framed_passed_comment : Framed Any passed_comment
unfolding passed_comment
framed_passed_comment = framed_then (framed_one (is_key EnvironmentVariable) (blind_key EnvironmentVariable))
    (λ word. framed_then framed_skipped (λ passed. framed_done passed))

pub framed_value_texts : Framed Any value_texts_line
unfolding value_texts_line
framed_value_texts =
    framed_then (framed_token cited_number blind_number) (λ number.
    framed_then (framed_token cited_name blind_name) (λ name.
    framed_then (framed_many framed_entry) (λ entries.
    framed_end _)))

pub framed_passed_value_texts : Framed Any passed_value_texts
unfolding passed_value_texts
framed_passed_value_texts = framed_then (framed_token cited_name blind_name)
    (λ name. framed_then framed_skipped (λ passed. framed_done passed))

pub framed_value_type : Framed Any value_type_line
unfolding value_type_line
framed_value_type =
    framed_then (framed_token cited_number blind_number) (λ number.
    framed_then (framed_token cited_name blind_name) (λ name.
    framed_then (framed_optional (framed_one (is_mark (codes ":")) (blind_mark (codes ":")))) (λ colon.
    framed_then (framed_token type_of blind_type) (λ value_type.
    framed_end _))))

pub framed_spn : Framed Any spn_line
unfolding spn_line
framed_spn =
    framed_then (framed_one is_spn_name blind_spn_name) (λ attribute.
    framed_then (framed_one (is_key Signal) (blind_key Signal)) (λ word.
    framed_then (framed_token cited_number blind_number) (λ number.
    framed_then (framed_token cited_name blind_name) (λ name.
    framed_then (framed_token spn_of blind_spn) (λ spn.
    framed_end _)))))

pub framed_independent : Framed Next independent_line
unfolding independent_line
framed_independent =
    framed_then (framed_token independent_number blind_independent) (λ number.
    framed_then (framed_many (framed_one (λ t. not (begins_next t)) blind_other)) (λ others.
    end_followed))
  where
    end_followed : Framed Next (followed next >>= λ end. done PassedOver)
    end_followed = record {
      each = λ ts x rest h.
          let same : rest ≡ h.middle = h.goes_on.all in
          record {
            run = [];
            parts = sym (same ∙ h.begins.all);
            moves = λ moved others alike f.
                let a = followed_moves next h.value moved others alike f in
                record {
                  value = h.value;
                  middle = others;
                  begins = a;
                  goes_on = record { value = h.goes_on.value; all = refl };
                };
          };
    }
