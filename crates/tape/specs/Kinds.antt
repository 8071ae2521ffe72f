-- The kinds of `SyntaxKind`. A kind's number is its place there, from 0; each name stands for its number.
use Rattle.std.specs.Prelude.{ℕ, Bool, List, [], ◌∷◌}
use Rattle.basics.specs.Match.{among}

abbrev pub Error : ℕ
Error = 0

abbrev pub File : ℕ
File = 1

abbrev pub QueryList : ℕ
QueryList = 2

abbrev pub SelectStatement : ℕ
SelectStatement = 3

abbrev pub InsertStatement : ℕ
InsertStatement = 4

abbrev pub UpdateStatement : ℕ
UpdateStatement = 5

abbrev pub DeleteStatement : ℕ
DeleteStatement = 6

abbrev pub CreateStatement : ℕ
CreateStatement = 7

abbrev pub AlterStatement : ℕ
AlterStatement = 8

abbrev pub DropStatement : ℕ
DropStatement = 9

abbrev pub TruncateStatement : ℕ
TruncateStatement = 10

abbrev pub RenameStatement : ℕ
RenameStatement = 11

abbrev pub ShowStatement : ℕ
ShowStatement = 12

abbrev pub UseStatement : ℕ
UseStatement = 13

abbrev pub SetStatement : ℕ
SetStatement = 14

abbrev pub OptimizeStatement : ℕ
OptimizeStatement = 15

abbrev pub SystemStatement : ℕ
SystemStatement = 16

abbrev pub ExplainStatement : ℕ
ExplainStatement = 17

abbrev pub DescribeStatement : ℕ
DescribeStatement = 18

abbrev pub ExistsStatement : ℕ
ExistsStatement = 19

abbrev pub CheckStatement : ℕ
CheckStatement = 20

abbrev pub KillStatement : ℕ
KillStatement = 21

abbrev pub GrantStatement : ℕ
GrantStatement = 22

abbrev pub RevokeStatement : ℕ
RevokeStatement = 23

abbrev pub AttachStatement : ℕ
AttachStatement = 24

abbrev pub DetachStatement : ℕ
DetachStatement = 25

abbrev pub ExchangeStatement : ℕ
ExchangeStatement = 26

abbrev pub UndropStatement : ℕ
UndropStatement = 27

abbrev pub BackupStatement : ℕ
BackupStatement = 28

abbrev pub RestoreStatement : ℕ
RestoreStatement = 29

abbrev pub BeginStatement : ℕ
BeginStatement = 30

abbrev pub CommitStatement : ℕ
CommitStatement = 31

abbrev pub RollbackStatement : ℕ
RollbackStatement = 32

abbrev pub WithClause : ℕ
WithClause = 33

abbrev pub SelectClause : ℕ
SelectClause = 34

abbrev pub FromClause : ℕ
FromClause = 35

abbrev pub JoinClause : ℕ
JoinClause = 36

abbrev pub ArrayJoinClause : ℕ
ArrayJoinClause = 37

abbrev pub PrewhereClause : ℕ
PrewhereClause = 38

abbrev pub WhereClause : ℕ
WhereClause = 39

abbrev pub GroupByClause : ℕ
GroupByClause = 40

abbrev pub HavingClause : ℕ
HavingClause = 41

abbrev pub OrderByClause : ℕ
OrderByClause = 42

abbrev pub LimitByClause : ℕ
LimitByClause = 43

abbrev pub LimitClause : ℕ
LimitClause = 44

abbrev pub SettingsClause : ℕ
SettingsClause = 45

abbrev pub FormatClause : ℕ
FormatClause = 46

abbrev pub UnionClause : ℕ
UnionClause = 47

abbrev pub WindowClause : ℕ
WindowClause = 48

abbrev pub WindowDefinition : ℕ
WindowDefinition = 49

abbrev pub WindowFrame : ℕ
WindowFrame = 50

abbrev pub WindowSpec : ℕ
WindowSpec = 51

abbrev pub QualifyClause : ℕ
QualifyClause = 52

abbrev pub SampleClause : ℕ
SampleClause = 53

abbrev pub WithFillClause : ℕ
WithFillClause = 54

abbrev pub TableDefinition : ℕ
TableDefinition = 55

abbrev pub DatabaseDefinition : ℕ
DatabaseDefinition = 56

abbrev pub ViewDefinition : ℕ
ViewDefinition = 57

abbrev pub MaterializedViewDefinition : ℕ
MaterializedViewDefinition = 58

abbrev pub DictionaryDefinition : ℕ
DictionaryDefinition = 59

abbrev pub FunctionDefinition : ℕ
FunctionDefinition = 60

abbrev pub EngineClause : ℕ
EngineClause = 61

abbrev pub OrderByDefinition : ℕ
OrderByDefinition = 62

abbrev pub PartitionByDefinition : ℕ
PartitionByDefinition = 63

abbrev pub PrimaryKeyDefinition : ℕ
PrimaryKeyDefinition = 64

abbrev pub SampleByDefinition : ℕ
SampleByDefinition = 65

abbrev pub TtlDefinition : ℕ
TtlDefinition = 66

abbrev pub OnClusterClause : ℕ
OnClusterClause = 67

abbrev pub IfNotExistsClause : ℕ
IfNotExistsClause = 68

abbrev pub IfExistsClause : ℕ
IfExistsClause = 69

abbrev pub AsClause : ℕ
AsClause = 70

abbrev pub DictionarySource : ℕ
DictionarySource = 71

abbrev pub DictionarySourceType : ℕ
DictionarySourceType = 72

abbrev pub DictionaryLayout : ℕ
DictionaryLayout = 73

abbrev pub DictionaryLayoutType : ℕ
DictionaryLayoutType = 74

abbrev pub DictionaryLifetime : ℕ
DictionaryLifetime = 75

abbrev pub DictionaryRange : ℕ
DictionaryRange = 76

abbrev pub DictionaryKeyValue : ℕ
DictionaryKeyValue = 77

abbrev pub ColumnDefinition : ℕ
ColumnDefinition = 78

abbrev pub ColumnDefinitionList : ℕ
ColumnDefinitionList = 79

abbrev pub ColumnTypeDefinition : ℕ
ColumnTypeDefinition = 80

abbrev pub ColumnConstraint : ℕ
ColumnConstraint = 81

abbrev pub ColumnDefault : ℕ
ColumnDefault = 82

abbrev pub ColumnCodec : ℕ
ColumnCodec = 83

abbrev pub ColumnTtl : ℕ
ColumnTtl = 84

abbrev pub ColumnComment : ℕ
ColumnComment = 85

abbrev pub TableConstraint : ℕ
TableConstraint = 86

abbrev pub IndexDefinition : ℕ
IndexDefinition = 87

abbrev pub ProjectionDefinition : ℕ
ProjectionDefinition = 88

abbrev pub ConstraintDefinition : ℕ
ConstraintDefinition = 89

abbrev pub CreateIndexStatement : ℕ
CreateIndexStatement = 90

abbrev pub CreateUserStatement : ℕ
CreateUserStatement = 91

abbrev pub CreateRoleStatement : ℕ
CreateRoleStatement = 92

abbrev pub CreateQuotaStatement : ℕ
CreateQuotaStatement = 93

abbrev pub CreateRowPolicyStatement : ℕ
CreateRowPolicyStatement = 94

abbrev pub CreateSettingsProfileStatement : ℕ
CreateSettingsProfileStatement = 95

abbrev pub AlterUserStatement : ℕ
AlterUserStatement = 96

abbrev pub DropAccessEntityStatement : ℕ
DropAccessEntityStatement = 97

abbrev pub TableIdentifier : ℕ
TableIdentifier = 98

abbrev pub TableExpression : ℕ
TableExpression = 99

abbrev pub TableFunction : ℕ
TableFunction = 100

abbrev pub AlterCommandList : ℕ
AlterCommandList = 101

abbrev pub AlterAddColumn : ℕ
AlterAddColumn = 102

abbrev pub AlterDropColumn : ℕ
AlterDropColumn = 103

abbrev pub AlterModifyColumn : ℕ
AlterModifyColumn = 104

abbrev pub AlterRenameColumn : ℕ
AlterRenameColumn = 105

abbrev pub AlterClearColumn : ℕ
AlterClearColumn = 106

abbrev pub AlterCommentColumn : ℕ
AlterCommentColumn = 107

abbrev pub AlterAddIndex : ℕ
AlterAddIndex = 108

abbrev pub AlterDropIndex : ℕ
AlterDropIndex = 109

abbrev pub AlterClearIndex : ℕ
AlterClearIndex = 110

abbrev pub AlterMaterializeIndex : ℕ
AlterMaterializeIndex = 111

abbrev pub AlterAddProjection : ℕ
AlterAddProjection = 112

abbrev pub AlterDropProjection : ℕ
AlterDropProjection = 113

abbrev pub AlterAddConstraint : ℕ
AlterAddConstraint = 114

abbrev pub AlterDropConstraint : ℕ
AlterDropConstraint = 115

abbrev pub AlterModifyOrderBy : ℕ
AlterModifyOrderBy = 116

abbrev pub AlterModifyTtl : ℕ
AlterModifyTtl = 117

abbrev pub AlterModifySetting : ℕ
AlterModifySetting = 118

abbrev pub AlterModifyComment : ℕ
AlterModifyComment = 119

abbrev pub AlterModifyQuery : ℕ
AlterModifyQuery = 120

abbrev pub AlterMaterializeProjection : ℕ
AlterMaterializeProjection = 121

abbrev pub AlterMaterializeTtl : ℕ
AlterMaterializeTtl = 122

abbrev pub AlterResetSetting : ℕ
AlterResetSetting = 123

abbrev pub AlterDropPartition : ℕ
AlterDropPartition = 124

abbrev pub AlterAttachPartition : ℕ
AlterAttachPartition = 125

abbrev pub AlterDetachPartition : ℕ
AlterDetachPartition = 126

abbrev pub AlterFreezePartition : ℕ
AlterFreezePartition = 127

abbrev pub AlterDeleteWhere : ℕ
AlterDeleteWhere = 128

abbrev pub AlterUpdateWhere : ℕ
AlterUpdateWhere = 129

abbrev pub InsertColumnsClause : ℕ
InsertColumnsClause = 130

abbrev pub InsertValuesClause : ℕ
InsertValuesClause = 131

abbrev pub InsertFormatClause : ℕ
InsertFormatClause = 132

abbrev pub ValueRow : ℕ
ValueRow = 133

abbrev pub Expression : ℕ
Expression = 134

abbrev pub Asterisk : ℕ
Asterisk = 135

abbrev pub Identifier : ℕ
Identifier = 136

abbrev pub ColumnReference : ℕ
ColumnReference = 137

abbrev pub ColumnAlias : ℕ
ColumnAlias = 138

abbrev pub QualifiedName : ℕ
QualifiedName = 139

abbrev pub FunctionCall : ℕ
FunctionCall = 140

abbrev pub AggregateFunction : ℕ
AggregateFunction = 141

abbrev pub CastExpression : ℕ
CastExpression = 142

abbrev pub CaseExpression : ℕ
CaseExpression = 143

abbrev pub BinaryExpression : ℕ
BinaryExpression = 144

abbrev pub UnaryExpression : ℕ
UnaryExpression = 145

abbrev pub BetweenExpression : ℕ
BetweenExpression = 146

abbrev pub InExpression : ℕ
InExpression = 147

abbrev pub IsNullExpression : ℕ
IsNullExpression = 148

abbrev pub IsDistinctFromExpression : ℕ
IsDistinctFromExpression = 149

abbrev pub LikeExpression : ℕ
LikeExpression = 150

abbrev pub TupleExpression : ℕ
TupleExpression = 151

abbrev pub ArrayExpression : ℕ
ArrayExpression = 152

abbrev pub ArrayAccessExpression : ℕ
ArrayAccessExpression = 153

abbrev pub DotAccessExpression : ℕ
DotAccessExpression = 154

abbrev pub TypedJsonAccessExpression : ℕ
TypedJsonAccessExpression = 155

abbrev pub MapExpression : ℕ
MapExpression = 156

abbrev pub QueryParameterExpression : ℕ
QueryParameterExpression = 157

abbrev pub SubqueryExpression : ℕ
SubqueryExpression = 158

abbrev pub LambdaExpression : ℕ
LambdaExpression = 159

abbrev pub IntervalExpression : ℕ
IntervalExpression = 160

abbrev pub WindowExpression : ℕ
WindowExpression = 161

abbrev pub ExistsExpression : ℕ
ExistsExpression = 162

abbrev pub TernaryExpression : ℕ
TernaryExpression = 163

abbrev pub QualifiedAsterisk : ℕ
QualifiedAsterisk = 164

abbrev pub NullsModifier : ℕ
NullsModifier = 165

abbrev pub FilterClause : ℕ
FilterClause = 166

abbrev pub ColumnTransformer : ℕ
ColumnTransformer = 167

abbrev pub GroupingSetsClause : ℕ
GroupingSetsClause = 168

abbrev pub GroupingSet : ℕ
GroupingSet = 169

abbrev pub WithTotalsClause : ℕ
WithTotalsClause = 170

abbrev pub NumberLiteral : ℕ
NumberLiteral = 171

abbrev pub StringLiteral : ℕ
StringLiteral = 172

abbrev pub DateLiteral : ℕ
DateLiteral = 173

abbrev pub BooleanLiteral : ℕ
BooleanLiteral = 174

abbrev pub NullLiteral : ℕ
NullLiteral = 175

abbrev pub ColumnList : ℕ
ColumnList = 176

abbrev pub ExpressionList : ℕ
ExpressionList = 177

abbrev pub OrderByList : ℕ
OrderByList = 178

abbrev pub GroupByList : ℕ
GroupByList = 179

abbrev pub SettingList : ℕ
SettingList = 180

abbrev pub IdentifierList : ℕ
IdentifierList = 181

abbrev pub JoinType : ℕ
JoinType = 182

abbrev pub JoinConstraint : ℕ
JoinConstraint = 183

abbrev pub WhenClause : ℕ
WhenClause = 184

abbrev pub OrderByItem : ℕ
OrderByItem = 185

abbrev pub SettingItem : ℕ
SettingItem = 186

abbrev pub WithExpressionItem : ℕ
WithExpressionItem = 187

abbrev pub TableAlias : ℕ
TableAlias = 188

abbrev pub UsingList : ℕ
UsingList = 189

abbrev pub RenameItem : ℕ
RenameItem = 190

abbrev pub DataType : ℕ
DataType = 191

abbrev pub DataTypeParameters : ℕ
DataTypeParameters = 192

abbrev pub NestedDataType : ℕ
NestedDataType = 193

abbrev pub EnumValue : ℕ
EnumValue = 194

abbrev pub PartitionExpression : ℕ
PartitionExpression = 195

abbrev pub SampleExpression : ℕ
SampleExpression = 196

abbrev pub ExplainKind : ℕ
ExplainKind = 197

abbrev pub ShowTarget : ℕ
ShowTarget = 198

abbrev pub LikeClause : ℕ
LikeClause = 199

abbrev pub FromDatabaseClause : ℕ
FromDatabaseClause = 200

abbrev pub SystemCommand : ℕ
SystemCommand = 201

abbrev pub PrivilegeList : ℕ
PrivilegeList = 202

abbrev pub Privilege : ℕ
Privilege = 203

abbrev pub GrantTarget : ℕ
GrantTarget = 204

abbrev pub KillTarget : ℕ
KillTarget = 205

abbrev pub SetClause : ℕ
SetClause = 206

abbrev pub AssignmentList : ℕ
AssignmentList = 207

abbrev pub Assignment : ℕ
Assignment = 208

abbrev pub Whitespace : ℕ
Whitespace = 209

abbrev pub Comment : ℕ
Comment = 210

abbrev pub BareWord : ℕ
BareWord = 211

abbrev pub Number : ℕ
Number = 212

abbrev pub StringToken : ℕ
StringToken = 213

abbrev pub QuotedIdentifier : ℕ
QuotedIdentifier = 214

abbrev pub OpeningRoundBracket : ℕ
OpeningRoundBracket = 215

abbrev pub ClosingRoundBracket : ℕ
ClosingRoundBracket = 216

abbrev pub OpeningSquareBracket : ℕ
OpeningSquareBracket = 217

abbrev pub ClosingSquareBracket : ℕ
ClosingSquareBracket = 218

abbrev pub OpeningCurlyBrace : ℕ
OpeningCurlyBrace = 219

abbrev pub ClosingCurlyBrace : ℕ
ClosingCurlyBrace = 220

abbrev pub Comma : ℕ
Comma = 221

abbrev pub Semicolon : ℕ
Semicolon = 222

abbrev pub VerticalDelimiter : ℕ
VerticalDelimiter = 223

abbrev pub Dot : ℕ
Dot = 224

abbrev pub Star : ℕ
Star = 225

abbrev pub HereDoc : ℕ
HereDoc = 226

abbrev pub DollarSign : ℕ
DollarSign = 227

abbrev pub Plus : ℕ
Plus = 228

abbrev pub Minus : ℕ
Minus = 229

abbrev pub Slash : ℕ
Slash = 230

abbrev pub Percent : ℕ
Percent = 231

abbrev pub Arrow : ℕ
Arrow = 232

abbrev pub QuestionMark : ℕ
QuestionMark = 233

abbrev pub Colon : ℕ
Colon = 234

abbrev pub Caret : ℕ
Caret = 235

abbrev pub DoubleColon : ℕ
DoubleColon = 236

abbrev pub Equals : ℕ
Equals = 237

abbrev pub NotEquals : ℕ
NotEquals = 238

abbrev pub Less : ℕ
Less = 239

abbrev pub Greater : ℕ
Greater = 240

abbrev pub LessOrEquals : ℕ
LessOrEquals = 241

abbrev pub GreaterOrEquals : ℕ
GreaterOrEquals = 242

abbrev pub Spaceship : ℕ
Spaceship = 243

abbrev pub PipeMark : ℕ
PipeMark = 244

abbrev pub Concatenation : ℕ
Concatenation = 245

abbrev pub At : ℕ
At = 246

abbrev pub DoubleAt : ℕ
DoubleAt = 247

abbrev pub EndOfStream : ℕ
EndOfStream = 248

abbrev pub ErrorToken : ℕ
ErrorToken = 249

abbrev pub ErrorMultilineCommentIsNotClosed : ℕ
ErrorMultilineCommentIsNotClosed = 250

abbrev pub ErrorSingleQuoteIsNotClosed : ℕ
ErrorSingleQuoteIsNotClosed = 251

abbrev pub ErrorDoubleQuoteIsNotClosed : ℕ
ErrorDoubleQuoteIsNotClosed = 252

abbrev pub ErrorBackQuoteIsNotClosed : ℕ
ErrorBackQuoteIsNotClosed = 253

abbrev pub ErrorSingleExclamationMark : ℕ
ErrorSingleExclamationMark = 254

abbrev pub ErrorSinglePipeMark : ℕ
ErrorSinglePipeMark = 255

abbrev pub ErrorWrongNumber : ℕ
ErrorWrongNumber = 256

abbrev pub ErrorMaxQuerySizeExceeded : ℕ
ErrorMaxQuerySizeExceeded = 257

-- all of them, in the order of the source
unfoldable pub kinds : List ℕ
kinds =
    Error ∷ File ∷ QueryList ∷ SelectStatement ∷ InsertStatement ∷ UpdateStatement ∷ DeleteStatement ∷ CreateStatement ∷ AlterStatement
    ∷ DropStatement ∷ TruncateStatement ∷ RenameStatement ∷ ShowStatement ∷ UseStatement ∷ SetStatement ∷ OptimizeStatement ∷ SystemStatement
    ∷ ExplainStatement ∷ DescribeStatement ∷ ExistsStatement ∷ CheckStatement ∷ KillStatement ∷ GrantStatement ∷ RevokeStatement ∷ AttachStatement
    ∷ DetachStatement ∷ ExchangeStatement ∷ UndropStatement ∷ BackupStatement ∷ RestoreStatement ∷ BeginStatement ∷ CommitStatement
    ∷ RollbackStatement ∷ WithClause ∷ SelectClause ∷ FromClause ∷ JoinClause ∷ ArrayJoinClause ∷ PrewhereClause ∷ WhereClause ∷ GroupByClause
    ∷ HavingClause ∷ OrderByClause ∷ LimitByClause ∷ LimitClause ∷ SettingsClause ∷ FormatClause ∷ UnionClause ∷ WindowClause ∷ WindowDefinition
    ∷ WindowFrame ∷ WindowSpec ∷ QualifyClause ∷ SampleClause ∷ WithFillClause ∷ TableDefinition ∷ DatabaseDefinition ∷ ViewDefinition
    ∷ MaterializedViewDefinition ∷ DictionaryDefinition ∷ FunctionDefinition ∷ EngineClause ∷ OrderByDefinition ∷ PartitionByDefinition
    ∷ PrimaryKeyDefinition ∷ SampleByDefinition ∷ TtlDefinition ∷ OnClusterClause ∷ IfNotExistsClause ∷ IfExistsClause ∷ AsClause ∷ DictionarySource
    ∷ DictionarySourceType ∷ DictionaryLayout ∷ DictionaryLayoutType ∷ DictionaryLifetime ∷ DictionaryRange ∷ DictionaryKeyValue ∷ ColumnDefinition
    ∷ ColumnDefinitionList ∷ ColumnTypeDefinition ∷ ColumnConstraint ∷ ColumnDefault ∷ ColumnCodec ∷ ColumnTtl ∷ ColumnComment ∷ TableConstraint
    ∷ IndexDefinition ∷ ProjectionDefinition ∷ ConstraintDefinition ∷ CreateIndexStatement ∷ CreateUserStatement ∷ CreateRoleStatement
    ∷ CreateQuotaStatement ∷ CreateRowPolicyStatement ∷ CreateSettingsProfileStatement ∷ AlterUserStatement ∷ DropAccessEntityStatement
    ∷ TableIdentifier ∷ TableExpression ∷ TableFunction ∷ AlterCommandList ∷ AlterAddColumn ∷ AlterDropColumn ∷ AlterModifyColumn ∷ AlterRenameColumn
    ∷ AlterClearColumn ∷ AlterCommentColumn ∷ AlterAddIndex ∷ AlterDropIndex ∷ AlterClearIndex ∷ AlterMaterializeIndex ∷ AlterAddProjection
    ∷ AlterDropProjection ∷ AlterAddConstraint ∷ AlterDropConstraint ∷ AlterModifyOrderBy ∷ AlterModifyTtl ∷ AlterModifySetting ∷ AlterModifyComment
    ∷ AlterModifyQuery ∷ AlterMaterializeProjection ∷ AlterMaterializeTtl ∷ AlterResetSetting ∷ AlterDropPartition ∷ AlterAttachPartition
    ∷ AlterDetachPartition ∷ AlterFreezePartition ∷ AlterDeleteWhere ∷ AlterUpdateWhere ∷ InsertColumnsClause ∷ InsertValuesClause
    ∷ InsertFormatClause ∷ ValueRow ∷ Expression ∷ Asterisk ∷ Identifier ∷ ColumnReference ∷ ColumnAlias ∷ QualifiedName ∷ FunctionCall
    ∷ AggregateFunction ∷ CastExpression ∷ CaseExpression ∷ BinaryExpression ∷ UnaryExpression ∷ BetweenExpression ∷ InExpression ∷ IsNullExpression
    ∷ IsDistinctFromExpression ∷ LikeExpression ∷ TupleExpression ∷ ArrayExpression ∷ ArrayAccessExpression ∷ DotAccessExpression
    ∷ TypedJsonAccessExpression ∷ MapExpression ∷ QueryParameterExpression ∷ SubqueryExpression ∷ LambdaExpression ∷ IntervalExpression
    ∷ WindowExpression ∷ ExistsExpression ∷ TernaryExpression ∷ QualifiedAsterisk ∷ NullsModifier ∷ FilterClause ∷ ColumnTransformer
    ∷ GroupingSetsClause ∷ GroupingSet ∷ WithTotalsClause ∷ NumberLiteral ∷ StringLiteral ∷ DateLiteral ∷ BooleanLiteral ∷ NullLiteral ∷ ColumnList
    ∷ ExpressionList ∷ OrderByList ∷ GroupByList ∷ SettingList ∷ IdentifierList ∷ JoinType ∷ JoinConstraint ∷ WhenClause ∷ OrderByItem ∷ SettingItem
    ∷ WithExpressionItem ∷ TableAlias ∷ UsingList ∷ RenameItem ∷ DataType ∷ DataTypeParameters ∷ NestedDataType ∷ EnumValue ∷ PartitionExpression
    ∷ SampleExpression ∷ ExplainKind ∷ ShowTarget ∷ LikeClause ∷ FromDatabaseClause ∷ SystemCommand ∷ PrivilegeList ∷ Privilege ∷ GrantTarget
    ∷ KillTarget ∷ SetClause ∷ AssignmentList ∷ Assignment ∷ Whitespace ∷ Comment ∷ BareWord ∷ Number ∷ StringToken ∷ QuotedIdentifier
    ∷ OpeningRoundBracket ∷ ClosingRoundBracket ∷ OpeningSquareBracket ∷ ClosingSquareBracket ∷ OpeningCurlyBrace ∷ ClosingCurlyBrace ∷ Comma
    ∷ Semicolon ∷ VerticalDelimiter ∷ Dot ∷ Star ∷ HereDoc ∷ DollarSign ∷ Plus ∷ Minus ∷ Slash ∷ Percent ∷ Arrow ∷ QuestionMark ∷ Colon ∷ Caret
    ∷ DoubleColon ∷ Equals ∷ NotEquals ∷ Less ∷ Greater ∷ LessOrEquals ∷ GreaterOrEquals ∷ Spaceship ∷ PipeMark ∷ Concatenation ∷ At ∷ DoubleAt
    ∷ EndOfStream ∷ ErrorToken ∷ ErrorMultilineCommentIsNotClosed ∷ ErrorSingleQuoteIsNotClosed ∷ ErrorDoubleQuoteIsNotClosed
    ∷ ErrorBackQuoteIsNotClosed ∷ ErrorSingleExclamationMark ∷ ErrorSinglePipeMark ∷ ErrorWrongNumber ∷ ErrorMaxQuerySizeExceeded ∷ []

-- the node kinds that are not carried
abbrev pub kinds_not_carried : List ℕ
kinds_not_carried =
    InsertStatement ∷ InsertValuesClause ∷ CreateStatement ∷ TableDefinition ∷ DatabaseDefinition ∷ ViewDefinition ∷ MaterializedViewDefinition
    ∷ DictionaryDefinition ∷ ColumnDefinitionList ∷ EngineClause ∷ AlterStatement ∷ SetStatement ∷ ExplainStatement ∷ []

unfoldable pub not_carried : ℕ → Bool
not_carried k = among k kinds_not_carried
