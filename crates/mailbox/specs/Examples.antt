-- Values and what `mailbox` says of them: first the worked examples of document 02, K14, then others. One theorem
-- holds of all of them (proofs/Examples, values). A character up to U+00FF stands for the byte of that number.
use Rattle.std.specs.Prelude.{List, [], ◌∷◌, ℕ}
use Prim.Native.String.{String}
use Rattle.rules.specs.Answers.{Said, says}
use Rattle.rules.specs.Bytes.{bytes}
use Rattle.mailbox.specs.Answers.{mailbox_answer}

pub data Example : Type 0 where
  -- a value; the name's start and end, the address's start and end
  found : String → ℕ → ℕ → ℕ → ℕ → Example
  -- a value; the refusal's number and place
  refuses : String → ℕ → ℕ → Example

abbrev pub wanted : Example → Said
wanted (found value start end from to) = says 0 (start ∷ end ∷ from ∷ to ∷ [])
wanted (refuses value number place) = says number (place ∷ [])

abbrev pub ruled : Example → Said
ruled (found value start end from to) = mailbox_answer (bytes value)
ruled (refuses value number place) = mailbox_answer (bytes value)

unfoldable pub table : List Example
table =
    -- K14.1 to K14.8
    found " (x) <a@b>" 5 5 6 9
    ∷ found "(c) \"A \\\" B\"(d)C (e) <(f) a (g)@ b\t> (h)" 4 16 26 34
    ∷ found "A\"B\"C<a@b>" 0 5 6 9
    ∷ refuses "A. B <a@b>" 14 1
    ∷ refuses "\"A <a@b>" 14 8
    ∷ refuses "(((((((((x)))))))))<a@b>" 15 8
    ∷ refuses "\"\\\u{7f}\" <a@b>" 14 2
    ∷ refuses "A <a..b@c>" 14 5
    -- others
    ∷ found "A <a@b>" 0 1 3 6
    ∷ found "<a@b>" 0 0 1 4
    ∷ refuses "" 14 0
    ∷ refuses "  " 14 2
    ∷ found "\"A. B\" c (x(y)z) <a.b@c.d> (z)" 0 8 18 25
    ∷ refuses "A B" 14 3
    ∷ found "A<a@b>" 0 1 2 5
    ∷ found "A\"x\"B<a@b>" 0 5 6 9
    ∷ found "\"\"<a@b>" 0 2 3 6
    ∷ refuses "<a@b" 14 4
    ∷ refuses "<a.@b>" 14 3
    ∷ refuses "<.a@b>" 14 1
    ∷ refuses "<a..b@c>" 14 3
    ∷ found "< (x) a (y) @ (z) b (w) > (v)" 0 0 6 19
    ∷ refuses "((((((((<" 14 9
    ∷ found "(((((((())))))))<a@b>" 16 16 17 20
    ∷ refuses "(((((((((" 15 8
    ∷ found "(a\\)b)<a@b>" 6 6 7 10
    ∷ refuses "(a\\\n" 14 3
    ∷ refuses "(a\n" 14 2
    ∷ found "\"a\\\"b\"<a@b>" 0 6 7 10
    ∷ refuses "\"a\nb\"" 14 2
    ∷ refuses "\"a\\\u{7f}\"" 14 3
    ∷ refuses "A.B <a@b>" 14 1
    ∷ refuses "A <a@b> x" 14 8
    ∷ refuses "A <a@b> (" 14 9
    ∷ found "\t(\t)\t<\ta@b>\t" 5 5 7 10
    ∷ refuses "<\"a\"@b>" 14 1
    ∷ refuses "<a@[b]>" 14 3
    ∷ refuses "@" 14 0
    ∷ refuses "a>" 14 1
    ∷ found "(x)A(y)B(z)<a@b>" 3 8 12 15
    ∷ found "<a @ b>" 0 0 1 6
    ∷ refuses "<a. b@c>" 14 3
    ∷ refuses "A, B <a@b>" 14 1
    ∷ found "\"((((((((((\" <a@b>" 0 12 14 17
    ∷ refuses "(\\((((((((((" 15 10
    ∷ found "(()()()()()()()()())<a@b>" 20 20 21 24
    ∷ refuses "(((((((()(" 14 10
    ∷ refuses "(((((((()((" 15 10
    ∷ refuses "<a@b>(((((((((" 15 13
    ∷ refuses "<a@b.>" 14 5
    ∷ refuses "<a@b. >" 14 5
    ∷ refuses "a\"\\\"bb\"" 14 7
    ∷ refuses " \"\\@\"\tb\">" 14 9
    ∷ refuses "\\" 14 0
    ∷ refuses "bb" 14 2
    ∷ refuses "<  a@(<>(..@\\<(\\" 14 16
    ∷ refuses "\t\t " 14 3
    ∷ refuses "(b(b)>b.>b\\ >" 14 13
    ∷ refuses "b)<" 14 1
    ∷ refuses "\"@,@(@)a,<\\)\t>b@)\\)>bb,@." 14 25
    ∷ refuses "\t(b.a)\\,(" 14 6
    ∷ refuses "\t\"\"aab\"" 14 7
    ∷ refuses "ba<bb\\" 14 5
    ∷ refuses "(.@(" 14 4
    ∷ refuses "\t(\\b,b<,," 14 9
    ∷ refuses " <a.babb>" 14 8
    ∷ refuses "<a@ a\"" 14 5
    ∷ refuses "b (<@\t.>. <a( " 14 14
    ∷ refuses "aa>" 14 2
    ∷ refuses "(\t.\\a\t \t.,, \t\tb.b) \"))" 14 22
    ∷ refuses "\"bb)b@@ )b a \\<\t\\)<b \t)," 14 24
    ∷ refuses "bab)" 14 3
    ∷ refuses "(@\t>(\\(aa<" 14 10
    ∷ refuses "(\"\t\t\\ )\")<\t  )( @,@>)" 14 21
    ∷ refuses "ba(\t(,<>\",@@ <" 14 14
    ∷ refuses "(\")b \tbaa<  b" 14 13
    ∷ refuses "< a\t (@\t((,\"" 14 12
    ∷ refuses "< (a.\t(\t\t" 14 9
    ∷ refuses "\"" 14 1
    ∷ refuses "<(" 14 2
    ∷ refuses "abb<(\t>)" 14 8
    ∷ refuses "\ta(ba\t\\<\\\t" 14 10
    ∷ refuses "<\tb@\t" 14 5
    ∷ refuses "\tb(@ \"." 14 7
    ∷ refuses "bb(\t" 14 4
    ∷ refuses " \" ," 14 4
    ∷ refuses "<b@b" 14 4
    ∷ refuses "b" 14 1
    ∷ refuses "ab< b\t@" 14 7
    ∷ refuses "<\ta" 14 3
    ∷ refuses "b   \t<(<>a,@(a.b>" 14 17
    ∷ refuses "\",b>." 14 5
    ∷ refuses "ba(\t" 14 4
    ∷ refuses " \"" 14 2
    ∷ refuses "b\t\" >\\  \\()" 14 11
    ∷ refuses "a(" 14 2
    ∷ refuses "b\"a." 14 4
    ∷ refuses "\",(,b\tb),.\tb\\.\\)\"<a(<" 14 21
    ∷ refuses "<b(>>>b" 14 7
    ∷ refuses "a\" \\>" 14 5
    ∷ refuses "a<(>.\\a\\b\"\\.\\.,.b (a\"\\)\"" 14 24
    ∷ refuses "aa" 14 2
    ∷ refuses "\"(.ba\t\t(\tb)b >\t<< ,<@" 14 21
    ∷ refuses "a\t(  \"\"a\t<(b." 14 13
    ∷ refuses ">" 14 0
    ∷ refuses "\"b,(@a,b )b ><<a>," 14 18
    ∷ refuses "(b\t\\b<a<a)\t\"" 14 12
    ∷ refuses "<\t \t" 14 4
    ∷ refuses " b(\t" 14 4
    ∷ refuses "a<( )a\t@\t." 14 9
    ∷ refuses "<\tb.b(a,@ a\\a(\\( " 14 17
    ∷ refuses "  ( (( (a( .>(b\"\t@b)\ta>(" 14 24
    ∷ refuses "@\t\"" 14 0
    ∷ refuses "\t" 14 1
    ∷ refuses ")" 14 0
    ∷ refuses "ab<(.\t,\"<\tb)b." 14 14
    ∷ refuses "\t<   \tb." 14 8
    ∷ refuses " \"@" 14 3
    ∷ found "Ã© <Ã©@b>" 0 2 4 8
    ∷ found "(\u{80}\\ÿ)\"\u{80}\\ÿ\"<a@b>" 5 10 11 14
    ∷ refuses "\u{80}\u{7f}<a@b>" 14 1
    ∷ []
