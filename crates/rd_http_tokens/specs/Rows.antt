-- Worked flat forms.
use Rattle.std.specs.Prelude.{◌≡◌, true, false, [], ◌∷◌, ◌++◌, codes}
use Rattle.std.proofs.Common.{refl}
use Rattle.std.specs.Fmt.{digits}
use Rattle.httparse.specs.Grammar.{trim_ows}
use Rattle.rd_base.specs.Token.{token}
use Rattle.rd_base.specs.WordCut.{soft, firm}
use Rattle.rd_base.specs.declared.values.TokenKind.TheVariants.{Firm, Name}
use Rattle.rd_base.specs.declared.values.Part.TheVariants.{Request, Reply}
use Rattle.rd_base.specs.declared.names.NameRules.{NameRules}
use Rattle.rd_http_tokens.specs.Tokens.{is_passed}
use Rattle.rd_http_tokens.specs.HttpGrammar.{left_at, first}
use Rattle.rd_http_tokens.specs.Copied.{copied_of}
use Rattle.rd_http_frame.specs.declared.body.BodyRule.TheVariants.{Empty, Chunked}

abbrev names : NameRules
names =
    record {
      pass = [];
      firm = [];
      free = codes "t" ∷ [];
    }

-- a reply of plain text, whole
row_text : left_at names Reply true (codes "HTTP/1.1 200 OK\r\nContent-Type: text/plain\r\nContent-Length: 2\r\n\r\na!" ++ 0 ∷ 0 ∷ 0 ∷ 0 ∷ []) first
    ≡ token Firm (codes "200") ∷ token Name (codes "content-type") ∷ soft (codes "text/plain") ∷ token Firm [] ∷ soft (codes "a") ∷ firm 33 ∷ []
unfolding trim_ows is_passed
row_text = refl

-- the same as a part: its last byte is a token, and a word before it is closed
row_part : left_at names Reply false (codes "HTTP/1.1 200 OK\r\nContent-Type: text/plain\r\nContent-Length: 9\r\n\r\na!b") first
    ≡ token Firm (codes "200") ∷ token Name (codes "content-type") ∷ soft (codes "text/plain") ∷ token Firm [] ∷ soft (codes "a") ∷ firm 33 ∷ []
unfolding trim_ows is_passed
row_part = refl

-- JSON in chunks with a trailer of five bytes
row_json : left_at names Reply true (codes "HTTP/1.1 200 OK\r\nContent-Type: application/json;x\r\n\r\n{\"a\\\"b\":-1.5e3}X:y\n\n" ++ 0 ∷ 0 ∷ 0 ∷ 5 ∷ []) first
    ≡ token Firm (codes "200") ∷ token Name (codes "content-type") ∷ soft (codes "application/json") ∷ firm 59 ∷ soft (codes "x") ∷ token Firm []
    ∷ firm 123 ∷ firm 34 ∷ soft (codes "a\\\"b") ∷ firm 34 ∷ firm 58 ∷ soft (codes "-1.5e3") ∷ firm 125 ∷ token Name (codes "x") ∷ soft (codes "y") ∷ []
unfolding trim_ows is_passed
row_json = refl

-- a form whose key `t` is free
row_form : left_at names Request true (codes "POST /s?q=1 HTTP/1.1\nContent-Type: application/x-www-form-urlencoded\n\nt=ab=c&n=1" ++ 0 ∷ 0 ∷ 0 ∷ 0 ∷ []) first
    ≡ token Firm (codes "POST") ∷ soft (codes "/s") ∷ firm 63 ∷ soft (codes "q") ∷ firm 61 ∷ soft (codes "1") ∷ token Name (codes "content-type") ∷ soft (codes "application/x-www-form-urlencoded") ∷ token Firm []
    ∷ token Firm (codes "t") ∷ firm 61 ∷ firm 38 ∷ token Firm (codes "n") ∷ firm 61 ∷ soft (codes "1") ∷ []
unfolding trim_ows is_passed
row_form = refl

-- a browser's GET without rows: only what is asked of codings changes
row_get : copied_of 1 [] (codes "GET /a HTTP/1.1\r\nHost: shop.local\r\nUpgrade: h2c\r\nAccept-Encoding: gzip, br \r\nCookie: sid=1\n\r\n") Empty []
    ≡ codes "GET /a HTTP/1.1\r\nHost: shop.local\r\nAccept-Encoding: identity \r\nCookie: sid=1\n\r\n"
unfolding trim_ows
row_get = refl

-- a row whose word stands in a target, in a field and in a chunked body of text, whose framing changes
row_chunks : copied_of 1 ((codes "aaaaaaaaaaaaaaaa" ∷ codes "bbbbbbbbbbbbbbbbb" ∷ []) ∷ []) (codes "POST /aaaaaaaaaaaaaaaa HTTP/1.1\nX: y aaaaaaaaaaaaaaaa\nContent-Type: text/x\nTransfer-Encoding: chunked\n\n") Chunked (codes "8\r\naaaaaaaa\r\n9\r\naaaaaaaa!\r\n000\r\nT: aaaaaaaaaaaaaaaa\n\n")
    ≡ codes "POST /aaaaaaaaaaaaaaaa HTTP/1.1\nX: y bbbbbbbbbbbbbbbbb\nContent-Type: text/x\nTransfer-Encoding: chunked\n\n" ++ ((digits 16 false 18 ++ codes "\r\nbbbbbbbbbbbbbbbbb!\r\n") ++ codes "0\r\nT: aaaaaaaaaaaaaaaa\n\n")
unfolding trim_ows
row_chunks = refl
